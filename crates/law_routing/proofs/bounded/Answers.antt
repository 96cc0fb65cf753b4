use Rattle.law_routing.proofs.Total.{bounded-run}
use Rattle.law_routing.proofs.bounded.Goals as goal

pub returns : goal.returns
returns hold c run = bounded-run hold.M.Matching.theory hold.M.Matching.laws run
