use Rattle.law_routing.proofs.Started.{authentic-run}
use Rattle.law_routing.proofs.authentic.Goals as goal

pub returns : goal.returns
returns hold c run = authentic-run hold.M.Matching.theory hold.M.Matching.laws run
