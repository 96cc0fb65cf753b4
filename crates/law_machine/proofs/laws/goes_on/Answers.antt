use Rattle.law_machine.proofs.Phases.{next-phase}
use Rattle.law_machine.proofs.laws.goes_on.Goals as goal

pub returns : goal.returns
returns hold c laws between phase ended =
    next-phase hold.M.LocalStep.machine laws between.opening between.network between.last between.next between.sofar between.journals between.cells between.stands phase.fresh phase.merged phase.ends phase.hand.merge phase.hand.replay phase.hand.took ended.quiet ended.through
