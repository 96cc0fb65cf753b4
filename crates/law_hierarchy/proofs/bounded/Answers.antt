use Rattle.law_hierarchy.proofs.Spread.{bounded-run}
use Rattle.law_hierarchy.proofs.bounded.Goals as goal

pub returns : goal.returns
returns hold c run = bounded-run hold.M.Matching.theory hold.M.Matching.laws run
