use Rattle.law_routing.proofs.Started.{in-force-run}
use Rattle.law_routing.proofs.in_force.Goals as goal

pub returns : goal.returns
returns hold c run = in-force-run hold.M.Matching.theory hold.M.Matching.laws run
