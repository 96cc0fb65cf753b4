use Rattle.law_routing.proofs.Started.{ends}
use Rattle.law_routing.proofs.last_moment.Goals as goal

pub returns : goal.returns
returns hold c run = ends hold.M.Matching.theory hold.M.Matching.laws run
