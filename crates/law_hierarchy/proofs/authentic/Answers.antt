use Rattle.law_hierarchy.proofs.Given.{authentic}
use Rattle.law_hierarchy.proofs.authentic.Goals as goal

pub returns : goal.returns
returns hold c run = authentic hold.M.Matching.theory hold.M.Matching.laws run
