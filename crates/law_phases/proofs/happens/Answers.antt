use Rattle.law_phases.proofs.Entries.{happens-run}
use Rattle.law_phases.proofs.happens.Goals as goal

pub returns : goal.returns
returns hold c run = happens-run hold.M.Matching.theory hold.M.Matching.laws run
