use Rattle.law_hierarchy.proofs.Causal.{causal-order}
use Rattle.law_hierarchy.proofs.causal_order.Goals as goal

pub returns : goal.returns
returns hold c run = causal-order hold.M.Matching.theory hold.M.Matching.laws run
