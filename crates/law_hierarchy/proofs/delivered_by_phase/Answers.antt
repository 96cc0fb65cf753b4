use Rattle.law_hierarchy.proofs.ByPhase.{by-phase}
use Rattle.law_hierarchy.proofs.delivered_by_phase.Goals as goal

pub returns : goal.returns
returns hold c run = by-phase hold.M.Matching.theory hold.M.Matching.laws run
