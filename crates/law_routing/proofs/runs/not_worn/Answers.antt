use Rattle.std.proofs.Common.{sym, subst, arith}
use Rattle.law_machine.specs.Runs.{HasStampsUpTo}
use Rattle.law_routing.specs.Theory.{Theory}
use Rattle.law_routing.specs.Net.{Net}
use Rattle.law_routing.specs.Routing.{opening, routing_machine}
use Rattle.law_routing.proofs.Laws.{machine-laws}
use Rattle.law_machine.proofs.Phases.{not-worn}
use Rattle.law_routing.proofs.runs.not_worn.Goals as goal

low : (th : Theory) (net : Net th) → HasStampsUpTo (routing_machine th net) 0 (opening th net)
low th net = record { clocks = λ t. omega arith; puts = λ u t s i. absurd i }

pub returns : goal.returns
returns hold c net between begins phase =
    let at = subst (HasStampsUpTo (routing_machine hold.M.Matching.theory net) 0) (sym begins) (low hold.M.Matching.theory net) in
    let n = not-worn (routing_machine hold.M.Matching.theory net) (machine-laws hold.M.Matching.theory net) between.opening between.network between.last between.next between.sofar between.journals between.cells between.stands phase.fresh phase.merged phase.ends phase.hand.merge phase.hand.replay at phase.hand.took in
    record { clocks = n.0; puts = n.1 }
