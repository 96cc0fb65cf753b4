use Rattle.law_phases.proofs.Routes.{pruned}
use Rattle.law_phases.proofs.pruning.Goals as goal

pub returns : goal.returns
returns hold c run = pruned hold.M.Matching.theory hold.M.Matching.laws run
