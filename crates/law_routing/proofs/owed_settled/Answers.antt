use Rattle.law_routing.proofs.Flooded.{owed-settles}
use Rattle.law_routing.proofs.owed_settled.Goals as goal

pub returns : goal.returns
returns hold c run = owed-settles hold.M.Matching.theory hold.M.Matching.laws run
