use Rattle.law_phases.proofs.Settled.{settled-delivery}
use Rattle.law_phases.proofs.settled_delivery.Goals as goal

pub returns : goal.returns
returns hold c run = settled-delivery hold.M.Matching.theory hold.M.Matching.laws run
