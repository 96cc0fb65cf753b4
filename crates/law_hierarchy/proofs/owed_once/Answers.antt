use Rattle.law_hierarchy.proofs.Given.{owed}
use Rattle.law_hierarchy.proofs.owed_once.Goals as goal

pub returns : goal.returns
returns hold c run = owed hold.M.Matching.theory hold.M.Matching.laws run
