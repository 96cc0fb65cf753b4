use Rattle.law_phases.proofs.Walks.{drained}
use Rattle.law_phases.proofs.drained_when_through.Goals as goal

pub returns : goal.returns
returns hold c run = drained hold.M.Matching.theory hold.M.Matching.laws run
