use Rattle.std.proofs.Common.{◌≡◌, ◌<◌, ◌≤◌, ℕ, Some, slice_get}
use Rattle.thread_cell.specs.Cell.{CellParts}
use Rattle.thread_cell.specs.Relinking.{HasRaised}
use Rattle.thread_cell.specs.Entered.{AreSameCells}
use Rattle.thread_cell.proofs.next.raise_all.Given as goal

abbrev pub invariant-loop-k : goal.invariant-loop-k
invariant-loop-k l = record {
  same : AreSameCells l.initial.cells l.cells;
  raised : (k : ℕ) (a b : CellParts) → k < l.k → slice_get l.initial.cells k ≡ Some a → slice_get l.cells k ≡ Some b → HasRaised l.phase l.clock a b;
  left : (k : ℕ) → l.k ≤ k → slice_get l.cells k ≡ slice_get l.initial.cells k;
}
