use Rattle.law_hierarchy.proofs.Walking.{drained-through}
use Rattle.law_hierarchy.proofs.drained_when_through.Goals as goal

pub returns : goal.returns
returns hold c run = drained-through hold.M.Matching.theory hold.M.Matching.laws run
