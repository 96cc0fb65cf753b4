use Rattle.law_routing.proofs.Changed.{changed}
use Rattle.law_routing.proofs.tree_changes.Goals as goal

pub returns : goal.returns
returns hold c run links hop next good quiet later through = changed hold.M.Matching.theory hold.M.Matching.laws run links hop good quiet next later through
