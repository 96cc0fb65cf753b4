use Rattle.law_phases.proofs.Entries.{keeps-run}
use Rattle.law_phases.proofs.keeps_clients.Goals as goal

pub returns : goal.returns
returns hold c run = keeps-run hold.M.Matching.theory hold.M.Matching.laws run
