use Rattle.law_phases.proofs.Floods.{flooded-twice-never}
use Rattle.law_phases.proofs.flooding.never_twice.Goals as goal

pub returns : goal.returns
returns hold c run = flooded-twice-never hold.M.Matching.theory hold.M.Matching.laws run
