use Rattle.law_phases.proofs.Sequence.{by-phase}
use Rattle.law_phases.proofs.delivered_by_phase.Goals as goal

pub returns : goal.returns
returns hold c run = by-phase hold.M.Matching.theory hold.M.Matching.laws run
