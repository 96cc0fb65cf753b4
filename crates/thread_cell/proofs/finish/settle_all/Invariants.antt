use Rattle.std.proofs.Common.{◌≡◌, ℕ, ◌<◌}
use Rattle.thread_cell.specs.Together.{sights, cell_roots}
use Rattle.thread_cell.specs.InHand.{IsReceivedInOrder}
use Rattle.thread_cell.proofs.finish.settle_all.Given as goal

abbrev pub invariant-loop-k : goal.invariant-loop-k
invariant-loop-k l = record {
  seen : sights l.cells ≡ sights l.initial.cells;
  roots : cell_roots l.cells ≡ cell_roots l.initial.cells;
  order : (k p : ℕ) → k < l.k → IsReceivedInOrder (sights l.cells) k p;
}
