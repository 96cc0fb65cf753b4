use Rattle.law_machine.proofs.Phases.{next-phase}
use Rattle.law_routing.specs.Routing.{routing_machine}
use Rattle.law_routing.proofs.Laws.{machine-laws}
use Rattle.law_routing.proofs.runs.phase_goes_on.Goals as goal

pub returns : goal.returns
returns hold c net between phase ended =
    next-phase (routing_machine hold.M.Matching.theory net) (machine-laws hold.M.Matching.theory net) between.opening between.network between.last between.next between.sofar between.journals between.cells between.stands phase.fresh phase.merged phase.ends phase.hand.merge phase.hand.replay phase.hand.took ended.quiet ended.through
