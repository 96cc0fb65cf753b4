use Rattle.law_phases.proofs.Whole.{due-once-in}
use Rattle.law_phases.proofs.due_once.Goals as goal

pub returns : goal.returns
returns hold c run = due-once-in hold.M.Matching.theory hold.M.Matching.laws run
