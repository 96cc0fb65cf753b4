use Rattle.law_phases.proofs.Whole.{quiet-rests}
use Rattle.law_phases.proofs.quiet_rests.Goals as goal

pub returns : goal.returns
returns hold c run = quiet-rests hold.M.Matching.theory hold.M.Matching.laws run
