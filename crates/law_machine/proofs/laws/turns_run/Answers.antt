use Rattle.law_machine.proofs.Tried.{entries-run}
use Rattle.law_machine.proofs.laws.turns_run.Goals as goal

pub returns : goal.returns
returns hold c laws phase turns moment walk = entries-run hold.M.LocalStep.machine laws phase turns moment walk
