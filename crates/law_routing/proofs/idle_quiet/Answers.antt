use Rattle.law_routing.proofs.Idle.{idle-quiet}
use Rattle.law_routing.proofs.idle_quiet.Goals as goal

pub returns : goal.returns
returns hold c run = idle-quiet hold.M.Matching.theory hold.M.Matching.laws run
