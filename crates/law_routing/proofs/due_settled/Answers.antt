use Rattle.law_routing.proofs.Flooded.{due-settles}
use Rattle.law_routing.proofs.due_settled.Goals as goal

pub returns : goal.returns
returns hold c run = due-settles hold.M.Matching.theory hold.M.Matching.laws run
