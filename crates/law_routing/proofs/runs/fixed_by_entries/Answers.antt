use Rattle.law_machine.proofs.Fixed.{run-once}
use Rattle.law_routing.specs.Routing.{routing_machine}
use Rattle.law_routing.proofs.runs.fixed_by_entries.Goals as goal

pub returns : goal.returns
returns hold c net run other otherwise g = run-once (routing_machine hold.M.Matching.theory net) run.start run.first run.entries run.end other run.last otherwise run.legal g
