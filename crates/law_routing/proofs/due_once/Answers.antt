use Rattle.law_routing.proofs.Flooded.{due-once}
use Rattle.law_routing.proofs.due_once.Goals as goal

pub returns : goal.returns
returns hold c run = due-once hold.M.Matching.theory hold.M.Matching.laws run
