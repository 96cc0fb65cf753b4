use Rattle.law_hierarchy.proofs.Given.{owed-by}
use Rattle.law_hierarchy.proofs.owed_in_phase.Goals as goal

pub returns : goal.returns
returns hold c run = owed-by hold.M.Matching.theory hold.M.Matching.laws run
