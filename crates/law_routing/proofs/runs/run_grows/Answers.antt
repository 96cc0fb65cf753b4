use Rattle.law_machine.proofs.Growing.{run-more}
use Rattle.law_routing.specs.Routing.{routing_machine}
use Rattle.law_routing.proofs.runs.run_grows.Goals as goal

pub returns : goal.returns
returns hold c net run entry next now h = run-more (routing_machine hold.M.Matching.theory net) run.start run.first run.entries run.end run.last entry h.found next now run.legal h.ready h.step
