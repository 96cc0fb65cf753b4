use Rattle.law_hierarchy.proofs.Given.{in-force}
use Rattle.law_hierarchy.proofs.in_force.Goals as goal

pub returns : goal.returns
returns hold c run = in-force hold.M.Matching.theory hold.M.Matching.laws run
