use Rattle.law_machine.proofs.Growing.{run-more}
use Rattle.law_hierarchy.specs.Step.{hierarchy_machine}
use Rattle.law_hierarchy.proofs.runs.run_grows.Goals as goal

pub returns : goal.returns
returns hold c net = run-more (hierarchy_machine hold.M.Matching.theory net)
