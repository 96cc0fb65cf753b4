use Rattle.law_routing.proofs.Started.{ordered-run}
use Rattle.law_routing.proofs.in_order.Goals as goal

pub returns : goal.returns
returns hold c run = ordered-run hold.M.Matching.theory hold.M.Matching.laws run
