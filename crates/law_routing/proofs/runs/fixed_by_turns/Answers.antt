use Rattle.law_machine.proofs.Tried.{by-turns}
use Rattle.law_routing.specs.Routing.{routing_machine}
use Rattle.law_routing.proofs.runs.fixed_by_turns.Goals as goal

pub returns : goal.returns
returns hold c net run others other otherwise = by-turns (routing_machine hold.M.Matching.theory net) run.start run.first run.entries others run.end other run.last otherwise run.legal
