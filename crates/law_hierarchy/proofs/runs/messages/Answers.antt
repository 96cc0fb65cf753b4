use Rattle.std.proofs.Common.{suc}
use Rattle.law_machine.specs.History.{state_at, phase_at}
use Rattle.law_machine.proofs.History.{run-happens}
use Rattle.law_machine.proofs.Tried.{puts-messages}
use Rattle.law_hierarchy.specs.Step.{hierarchy_machine}
use Rattle.law_hierarchy.proofs.runs.messages.Goals as goal

pub returns : goal.returns
returns hold c net start first entries end last run n entry at =
    puts-messages (hierarchy_machine hold.M.Matching.theory net) (state_at (hierarchy_machine hold.M.Matching.theory net) start first entries n) (phase_at (hierarchy_machine hold.M.Matching.theory net) start first entries n) entry (state_at (hierarchy_machine hold.M.Matching.theory net) start first entries (suc n)) (phase_at (hierarchy_machine hold.M.Matching.theory net) start first entries (suc n))
    (run-happens (hierarchy_machine hold.M.Matching.theory net) start first entries end last run n entry at)
