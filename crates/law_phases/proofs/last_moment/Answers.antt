use Rattle.law_phases.specs.Moments.{opening_moment}
use Rattle.law_phases.proofs.Moments.{run-ends}
use Rattle.law_phases.proofs.last_moment.Goals as goal

pub returns : goal.returns
returns hold c run = run-ends hold.M.Matching.theory run.net (opening_moment hold.M.Matching.theory run.net).state 0 run.journal run.end run.last run.legal
