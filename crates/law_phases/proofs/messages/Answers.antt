use Rattle.law_phases.proofs.Entries.{messages-run}
use Rattle.law_phases.proofs.messages.Goals as goal

pub returns : goal.returns
returns hold c run = messages-run hold.M.Matching.theory hold.M.Matching.laws run
