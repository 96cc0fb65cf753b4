use Rattle.law_hierarchy.proofs.Settled.{settled-by}
use Rattle.law_hierarchy.proofs.settled_by.Goals as goal

pub returns : goal.returns
returns hold c run = settled-by hold.M.Matching.theory hold.M.Matching.laws run
