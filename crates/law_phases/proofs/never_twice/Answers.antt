use Rattle.law_phases.proofs.Whole.{never-twice}
use Rattle.law_phases.proofs.never_twice.Goals as goal

pub returns : goal.returns
returns hold c run = never-twice hold.M.Matching.theory hold.M.Matching.laws run
