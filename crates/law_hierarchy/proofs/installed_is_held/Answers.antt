use Rattle.law_hierarchy.proofs.Told.{installed-then}
use Rattle.law_hierarchy.proofs.installed_is_held.Goals as goal

pub returns : goal.returns
returns hold c run = installed-then hold.M.Matching.theory hold.M.Matching.laws run
