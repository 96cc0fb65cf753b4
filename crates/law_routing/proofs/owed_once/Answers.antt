use Rattle.law_routing.proofs.Flooded.{owed-once}
use Rattle.law_routing.proofs.owed_once.Goals as goal

pub returns : goal.returns
returns hold c run = owed-once hold.M.Matching.theory hold.M.Matching.laws run
