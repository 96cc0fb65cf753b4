use Rattle.law_routing.proofs.Drained.{drained-run}
use Rattle.law_routing.proofs.drained_when_through.Goals as goal

pub returns : goal.returns
returns hold c run = drained-run hold.M.Matching.theory hold.M.Matching.laws run
