use Rattle.law_machine.proofs.Fixed.{run-begins}
use Rattle.law_hierarchy.specs.Step.{hierarchy_machine}
use Rattle.law_hierarchy.proofs.runs.run_begins.Goals as goal

pub returns : goal.returns
returns hold c net = run-begins (hierarchy_machine hold.M.Matching.theory net)
