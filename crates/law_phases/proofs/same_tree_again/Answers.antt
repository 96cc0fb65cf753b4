use Rattle.law_phases.proofs.Again.{kept}
use Rattle.law_phases.proofs.same_tree_again.Goals as goal

pub returns : goal.returns
returns hold c run phase again server interface has = kept hold.M.Matching.theory hold.M.Matching.laws run phase again.quiet again.same server interface has
