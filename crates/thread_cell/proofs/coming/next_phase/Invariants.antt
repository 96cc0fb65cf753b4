use Rattle.std.proofs.Common.{◌≡◌, ◌<◌, ℕ, Some, slice_get, IfSome}
use Rattle.thread_cell.specs.Cell.{CellParts}
use Rattle.thread_cell.specs.Coming.{AreFrom, HaveCommand}
use Rattle.thread_cell.proofs.coming.next_phase.Given as goal

abbrev pub invariant-loop-cell : goal.invariant-loop-cell
invariant-loop-cell l =
    ((k : ℕ) (cell : CellParts) → k < l.cell-index → slice_get l.cells k ≡ Some cell → AreFrom l.least cell.held.core.clients)
    × IfSome l.least (HaveCommand l.cells)
