use Rattle.law_routing.proofs.Flooded.{is-due}
use Rattle.law_routing.proofs.owed_due.Goals as goal

pub returns : goal.returns
returns hold c run = is-due hold.M.Matching.theory hold.M.Matching.laws run
