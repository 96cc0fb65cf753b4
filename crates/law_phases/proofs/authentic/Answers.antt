use Rattle.law_phases.proofs.Whole.{authentic}
use Rattle.law_phases.proofs.authentic.Goals as goal

pub returns : goal.returns
returns hold c run = authentic hold.M.Matching.theory hold.M.Matching.laws run
