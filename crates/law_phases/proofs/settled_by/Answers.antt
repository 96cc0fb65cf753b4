use Rattle.law_phases.proofs.Settled.{settled-by}
use Rattle.law_phases.proofs.settled_by.Goals as goal

pub returns : goal.returns
returns hold c run = settled-by hold.M.Matching.theory hold.M.Matching.laws run
