use Rattle.law_phases.proofs.Whole.{put-rises}
use Rattle.law_phases.proofs.put_in_order.Goals as goal

pub returns : goal.returns
returns hold c run = put-rises hold.M.Matching.theory hold.M.Matching.laws run
