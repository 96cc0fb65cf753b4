use Rattle.law_routing.proofs.Started.{pruned-run}
use Rattle.law_routing.proofs.pruning.Goals as goal

pub returns : goal.returns
returns hold c run = pruned-run hold.M.Matching.theory hold.M.Matching.laws run
