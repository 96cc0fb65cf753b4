use Rattle.std.proofs.Common.{◌≡◌, ℕ, ◌<◌}
use Rattle.thread_cell.specs.Together.{sights, cell_roots}
use Rattle.thread_cell.specs.InHand.{IsReceivedInOrder}
use Rattle.thread_cell.proofs.finish.settle_one.Given as goal

abbrev pub invariant-loop-from : goal.invariant-loop-from
invariant-loop-from l = record {
  seen : sights l.cells ≡ sights l.initial.cells;
  roots : cell_roots l.cells ≡ cell_roots l.initial.cells;
  order : (p : ℕ) → p < l.from → IsReceivedInOrder (sights l.cells) l.k p;
}
