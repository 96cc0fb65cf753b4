use Rattle.law_phases.proofs.Floods.{flooded-once}
use Rattle.law_phases.proofs.flooding.owed_once.Goals as goal

pub returns : goal.returns
returns hold c run = flooded-once hold.M.Matching.theory hold.M.Matching.laws run
