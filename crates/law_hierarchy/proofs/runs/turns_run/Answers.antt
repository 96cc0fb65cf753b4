use Rattle.law_machine.proofs.Tried.{entries-run}
use Rattle.law_hierarchy.proofs.Local.{machine-laws}
use Rattle.law_hierarchy.specs.Step.{hierarchy_machine}
use Rattle.law_hierarchy.proofs.runs.turns_run.Goals as goal

pub returns : goal.returns
returns hold c net phase turns moment walk = entries-run (hierarchy_machine hold.M.Matching.theory net) (machine-laws hold.M.Matching.theory net) phase turns moment walk
