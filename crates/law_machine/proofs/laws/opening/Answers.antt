use Rattle.law_machine.proofs.Exists.{opens}
use Rattle.law_machine.proofs.laws.opening.Goals as goal

pub returns : goal.returns
returns hold c start untouched = opens hold.M.LocalStep.machine start untouched.calm untouched.through
