use Rattle.law_phases.proofs.Passing.{due-settled}
use Rattle.law_phases.proofs.due_settled.Goals as goal

pub returns : goal.returns
returns hold c run = due-settled hold.M.Matching.theory hold.M.Matching.laws run
