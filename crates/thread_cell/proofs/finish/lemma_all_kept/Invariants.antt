use Rattle.std.proofs.Common.{◌≡◌, ◌<◌, ℕ, Some, slice_get}
use Rattle.thread_cell.specs.Cell.{CellParts, IsKept}
use Rattle.thread_cell.proofs.finish.lemma_all_kept.Given as goal

abbrev pub invariant-loop-cell : goal.invariant-loop-cell
invariant-loop-cell l = (k : ℕ) (hand : CellParts) → k < l.cell-index → slice_get l.cells k ≡ Some hand → IsKept hand.root.net.value hand.root hand.journal hand.held
