use Rattle.law_phases.proofs.Whole.{stable-in}
use Rattle.law_phases.proofs.stable_inputs.Goals as goal

pub returns : goal.returns
returns hold c run drained client stable = stable-in hold.M.Matching.theory hold.M.Matching.laws run drained client stable.lives stable.owed
