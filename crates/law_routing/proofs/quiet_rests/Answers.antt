use Rattle.law_routing.proofs.Flooded.{quiet-at-rest}
use Rattle.law_routing.proofs.quiet_rests.Goals as goal

pub returns : goal.returns
returns hold c run = quiet-at-rest hold.M.Matching.theory hold.M.Matching.laws run
