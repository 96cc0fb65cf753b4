use Rattle.law_routing.proofs.Flooded.{stable-run}
use Rattle.law_routing.proofs.stable_inputs.Goals as goal

pub returns : goal.returns
returns hold c run drained client stable = stable-run hold.M.Matching.theory hold.M.Matching.laws run drained client stable.lives stable.owed
