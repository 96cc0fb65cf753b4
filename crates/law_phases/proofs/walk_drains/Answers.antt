use Rattle.law_phases.proofs.Walks.{walk-drains}
use Rattle.law_phases.proofs.walk_drains.Goals as goal

pub returns : goal.returns
returns hold c run phases all more = (let x = walk-drains hold.M.Matching.theory hold.M.Matching.laws run phases all more in record { drained = record { state = x.0; phase = x.1 }; walks = x.2; all = x.3 })
