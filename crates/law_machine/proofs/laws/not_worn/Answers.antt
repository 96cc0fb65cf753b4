use Rattle.law_machine.proofs.Phases.{not-worn}
use Rattle.law_machine.proofs.laws.not_worn.Goals as goal

pub returns : goal.returns
returns hold c laws between low phase =
    let n = not-worn hold.M.LocalStep.machine laws between.opening between.network between.last between.next between.sofar between.journals between.cells between.stands phase.fresh phase.merged phase.ends phase.hand.merge phase.hand.replay low phase.hand.took in
    record { clocks = n.0; puts = n.1 }
