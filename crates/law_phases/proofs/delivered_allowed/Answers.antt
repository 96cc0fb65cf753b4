use Rattle.law_phases.proofs.Whole.{delivered-allowed}
use Rattle.law_phases.proofs.delivered_allowed.Goals as goal

pub returns : goal.returns
returns hold c run = delivered-allowed hold.M.Matching.theory hold.M.Matching.laws run
