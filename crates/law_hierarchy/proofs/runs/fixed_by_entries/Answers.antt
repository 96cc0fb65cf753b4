use Rattle.law_machine.proofs.Fixed.{run-once}
use Rattle.law_hierarchy.specs.Step.{hierarchy_machine}
use Rattle.law_hierarchy.proofs.runs.fixed_by_entries.Goals as goal

pub returns : goal.returns
returns hold c net = run-once (hierarchy_machine hold.M.Matching.theory net)
