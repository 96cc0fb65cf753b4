use Rattle.law_phases.proofs.Whole.{is-due-in}
use Rattle.law_phases.proofs.owed_due.Goals as goal

pub returns : goal.returns
returns hold c run = is-due-in hold.M.Matching.theory hold.M.Matching.laws run
