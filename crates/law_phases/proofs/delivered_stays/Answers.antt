use Rattle.law_phases.proofs.Settled.{grows-one}
use Rattle.law_phases.proofs.delivered_stays.Goals as goal

pub returns : goal.returns
returns hold c run = grows-one hold.M.Matching.theory hold.M.Matching.laws run
