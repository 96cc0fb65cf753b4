use Rattle.law_phases.proofs.Routes.{in-force}
use Rattle.law_phases.proofs.in_force.Goals as goal

pub returns : goal.returns
returns hold c run = in-force hold.M.Matching.theory hold.M.Matching.laws run
