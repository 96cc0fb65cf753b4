use Rattle.law_routing.proofs.Changed.{stays-delivered}
use Rattle.law_routing.proofs.delivered_stays.Goals as goal

pub returns : goal.returns
returns hold c run = stays-delivered hold.M.Matching.theory hold.M.Matching.laws run
