use Rattle.law_hierarchy.proofs.Told.{goes-up}
use Rattle.law_hierarchy.proofs.goes_up.Goals as goal

pub returns : goal.returns
returns hold c run = goes-up hold.M.Matching.theory hold.M.Matching.laws run
