use Rattle.law_hierarchy.proofs.Told.{last-moment}
use Rattle.law_hierarchy.proofs.last_moment.Goals as goal

pub returns : goal.returns
returns hold c run = last-moment hold.M.Matching.theory hold.M.Matching.laws run
