use Rattle.std.proofs.Common.{suc}
use Rattle.law_machine.specs.History.{run_state, run_phase}
use Rattle.law_machine.proofs.History.{run-happens}
use Rattle.law_machine.proofs.Tried.{puts-messages}
use Rattle.law_routing.specs.Routing.{routing_machine}
use Rattle.law_routing.proofs.runs.messages.Goals as goal

pub returns : goal.returns
returns hold c net run n entry at =
    puts-messages (routing_machine hold.M.Matching.theory net) (run_state (routing_machine hold.M.Matching.theory net) run n) (run_phase (routing_machine hold.M.Matching.theory net) run n) entry (run_state (routing_machine hold.M.Matching.theory net) run (suc n)) (run_phase (routing_machine hold.M.Matching.theory net) run (suc n))
    (run-happens (routing_machine hold.M.Matching.theory net) run.start run.first run.entries run.end run.last run.legal n entry at)
