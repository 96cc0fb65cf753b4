use Rattle.law_phases.proofs.Looks.{installed}
use Rattle.law_phases.proofs.installed_is_held.Goals as goal

pub returns : goal.returns
returns hold c run = installed hold.M.Matching.theory hold.M.Matching.laws run
