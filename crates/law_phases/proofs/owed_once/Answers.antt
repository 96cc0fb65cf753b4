use Rattle.law_phases.proofs.Whole.{owed-once-in}
use Rattle.law_phases.proofs.owed_once.Goals as goal

pub returns : goal.returns
returns hold c run = owed-once-in hold.M.Matching.theory hold.M.Matching.laws run
