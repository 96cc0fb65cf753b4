use Rattle.std.proofs.Common.{◌≡◌}
use Rattle.thread_cell.specs.Together.{cell_roots, HaveGrown}
use Rattle.thread_cell.proofs.finish.walk_commands.Given as goal

abbrev pub invariant-loop-k : goal.invariant-loop-k
invariant-loop-k g l = record {
  roots : cell_roots l.cells ≡ cell_roots l.fn.cells;
  grown : HaveGrown l.fn.cells l.cells;
}
