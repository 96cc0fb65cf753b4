use Rattle.law_routing.proofs.Flooded.{owed-in-phase}
use Rattle.law_routing.proofs.owed_in_phase.Goals as goal

pub returns : goal.returns
returns hold c run = owed-in-phase hold.M.Matching.theory hold.M.Matching.laws run
