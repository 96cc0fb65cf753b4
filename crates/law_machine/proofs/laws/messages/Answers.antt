use Rattle.law_machine.specs.History.{run_state, run_phase}
use Rattle.law_machine.proofs.History.{run-happens}
use Rattle.law_machine.proofs.Tried.{puts-messages}
use Rattle.law_machine.proofs.laws.messages.Goals as goal

pub returns : goal.returns
returns hold c run n entry at =
    puts-messages hold.M.LocalStep.machine (run_state hold.M.LocalStep.machine run n) (run_phase hold.M.LocalStep.machine run n) entry (run_state hold.M.LocalStep.machine run (Rattle.std.proofs.Common.suc n)) (run_phase hold.M.LocalStep.machine run (Rattle.std.proofs.Common.suc n))
    (run-happens hold.M.LocalStep.machine run.start run.first run.entries run.end run.last run.legal n entry at)
