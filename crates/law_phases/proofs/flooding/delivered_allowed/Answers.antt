use Rattle.law_phases.proofs.Floods.{given-allowed}
use Rattle.law_phases.proofs.flooding.delivered_allowed.Goals as goal

pub returns : goal.returns
returns hold c run = given-allowed hold.M.Matching.theory hold.M.Matching.laws run
