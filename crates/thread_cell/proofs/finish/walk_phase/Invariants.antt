use Rattle.std.proofs.Common.{◌≡◌}
use Rattle.thread_cell.specs.Together.{cell_roots, HaveGrown}
use Rattle.thread_cell.proofs.finish.walk_phase.Given as goal

abbrev pub invariant-loop : goal.invariant-loop
invariant-loop g l = record {
  roots : cell_roots l.cells ≡ cell_roots l.fn.cells;
  grown : HaveGrown l.fn.cells l.cells;
}
