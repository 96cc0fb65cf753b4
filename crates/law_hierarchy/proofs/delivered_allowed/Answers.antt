use Rattle.law_hierarchy.proofs.Given.{allowed}
use Rattle.law_hierarchy.proofs.delivered_allowed.Goals as goal

pub returns : goal.returns
returns hold c run = allowed hold.M.Matching.theory hold.M.Matching.laws run
