use Rattle.std.proofs.Common.{◌≡◌, ℕ, ◌<◌, false}
use Rattle.thread_cell.specs.Together.{sights, cell_roots, HaveGrown, IsTakenUp}
use Rattle.thread_cell.proofs.finish.walk_links.Given as goal

abbrev pub invariant-loop-from : goal.invariant-loop-from
invariant-loop-from g l = record {
  roots : cell_roots l.cells ≡ cell_roots l.initial.cells;
  grown : HaveGrown l.initial.cells l.cells;
  idle : l.made ≡ false → (sights l.cells ≡ sights l.initial.cells) × ((p : ℕ) → p < l.from → IsTakenUp (sights l.cells) l.k p);
}
