use Rattle.law_hierarchy.proofs.Walking.{idle-end}
use Rattle.law_hierarchy.proofs.idle_quiet.Goals as goal

pub returns : goal.returns
returns hold c run = idle-end hold.M.Matching.theory hold.M.Matching.laws run
