use Rattle.law_phases.proofs.Whole.{inbox-rises}
use Rattle.law_phases.proofs.delivered_in_order.Goals as goal

pub returns : goal.returns
returns hold c run = inbox-rises hold.M.Matching.theory hold.M.Matching.laws run
