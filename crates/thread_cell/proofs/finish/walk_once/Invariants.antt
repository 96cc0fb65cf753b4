use Rattle.std.proofs.Common.{◌≡◌, ℕ, ◌<◌, false}
use Rattle.thread_cell.specs.Together.{sights, cell_roots, HaveGrown, IsCellDone}
use Rattle.thread_cell.proofs.finish.walk_once.Given as goal

abbrev pub invariant-loop-k : goal.invariant-loop-k
invariant-loop-k g l = record {
  roots : cell_roots l.cells ≡ cell_roots l.initial.cells;
  grown : HaveGrown l.initial.cells l.cells;
  idle : l.made ≡ false → (k : ℕ) → k < l.k → IsCellDone (sights l.cells) k;
}
