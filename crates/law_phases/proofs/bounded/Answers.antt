use Rattle.law_phases.proofs.Counted.{bounded}
use Rattle.law_phases.proofs.bounded.Goals as goal

pub returns : goal.returns
returns hold c run = bounded hold.M.Matching.theory hold.M.Matching.laws run
