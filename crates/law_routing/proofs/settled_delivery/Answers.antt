use Rattle.law_routing.proofs.Started.{delivered-run}
use Rattle.law_routing.proofs.settled_delivery.Goals as goal

pub returns : goal.returns
returns hold c run = delivered-run hold.M.Matching.theory hold.M.Matching.laws run
