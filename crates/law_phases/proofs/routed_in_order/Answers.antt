use Rattle.law_phases.proofs.Passing.{routed-in-order}
use Rattle.law_phases.proofs.routed_in_order.Goals as goal

pub returns : goal.returns
returns hold c run two = routed-in-order hold.M.Matching.theory hold.M.Matching.laws run two.earlier two.later two.follows two.one_server two.one_publisher
