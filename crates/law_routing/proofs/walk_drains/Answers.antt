use Rattle.law_routing.proofs.Walked.{walk-drains}
use Rattle.law_routing.proofs.walk_drains.Goals as goal

pub returns : goal.returns
returns hold c run = walk-drains hold.M.Matching.theory hold.M.Matching.laws run
