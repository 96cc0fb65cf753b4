use Rattle.law_routing.proofs.Flooded.{begins-at-rest}
use Rattle.law_routing.proofs.begins_at_rest.Goals as goal

pub returns : goal.returns
returns hold c run = begins-at-rest hold.M.Matching.theory hold.M.Matching.laws run
