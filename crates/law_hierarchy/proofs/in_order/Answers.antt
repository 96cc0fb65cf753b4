use Rattle.law_hierarchy.proofs.Given.{in-order}
use Rattle.law_hierarchy.proofs.in_order.Goals as goal

pub returns : goal.returns
returns hold c run = in-order hold.M.Matching.theory hold.M.Matching.laws run
