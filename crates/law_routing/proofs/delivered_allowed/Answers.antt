use Rattle.law_routing.proofs.Flooded.{allowed-run}
use Rattle.law_routing.proofs.delivered_allowed.Goals as goal

pub returns : goal.returns
returns hold c run = allowed-run hold.M.Matching.theory hold.M.Matching.laws run
