use Rattle.law_phases.proofs.Passing.{owed-settled}
use Rattle.law_phases.proofs.owed_settled.Goals as goal

pub returns : goal.returns
returns hold c run = owed-settled hold.M.Matching.theory hold.M.Matching.laws run
