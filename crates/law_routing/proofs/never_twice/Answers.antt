use Rattle.law_routing.proofs.Flooded.{twice-never}
use Rattle.law_routing.proofs.never_twice.Goals as goal

pub returns : goal.returns
returns hold c run = twice-never hold.M.Matching.theory hold.M.Matching.laws run
