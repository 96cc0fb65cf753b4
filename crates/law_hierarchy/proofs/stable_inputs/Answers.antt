use Rattle.law_hierarchy.proofs.Given.{stable}
use Rattle.law_hierarchy.proofs.stable_inputs.Goals as goal

pub returns : goal.returns
returns hold c run drained client s = stable hold.M.Matching.theory hold.M.Matching.laws run drained client s.lives s.owed
