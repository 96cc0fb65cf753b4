use Rattle.law_machine.proofs.Tried.{entries-run}
use Rattle.law_routing.proofs.Laws.{machine-laws}
use Rattle.law_routing.specs.Routing.{routing_machine}
use Rattle.law_routing.proofs.runs.turns_run.Goals as goal

pub returns : goal.returns
returns hold c net phase turns moment walk = entries-run (routing_machine hold.M.Matching.theory net) (machine-laws hold.M.Matching.theory net) phase turns moment walk
