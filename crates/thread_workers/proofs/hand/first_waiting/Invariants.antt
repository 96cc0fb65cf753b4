use Rattle.std.proofs.Common.{◌≤◌, ◌<◌, ℕ, suc}
use Rattle.net_model.specs.declared.turn.Act.TheVariants.{Command}
use Rattle.thread_cell.specs.Asked.{Suits}
use Rattle.thread_cell.specs.Cell.{IsPast}
use Rattle.thread_workers.proofs.hand.first_waiting.Given as goal

abbrev pub invariant-loop-client : goal.invariant-loop-client
invariant-loop-client l =
    (client : ℕ) → l.from ≤ client → client < l.client → Suits (Command client) l.cell.root → IsPast (suc l.cell.root.phase) client l.cell.held.core.clients
