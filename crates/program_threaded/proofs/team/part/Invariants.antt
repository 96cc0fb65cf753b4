use Rattle.std.proofs.Common.{◌≡◌, ◌≤◌, ◌+◌, ◌++◌, length, map, vec_capacity}
use Rattle.thread_cell.specs.Together.{cell_roots}
use Rattle.thread_workers.specs.ServerWorkers.{AreViewersOf, Pairwise}
use Rattle.program_threaded.specs.Teams.{HaveViewers}
use Rattle.program_threaded.proofs.team.part.Given as goal

abbrev pub invariant-loop-started : goal.invariant-loop-started
invariant-loop-started l = record {
  cells : l.cells.items ++ map (λ s. s.cell) l.started.items ≡ map (λ s. s.cell) l.initial.started.items;
  pairs : Pairwise AreViewersOf (cell_roots l.cells.items) l.viewers.items;
  left : HaveViewers l.started.items;
  long : length l.viewers.items ≡ length l.cells.items;
  room : length l.cells.items + length l.started.items ≤ vec_capacity l.cells;
  room_viewers : length l.cells.items + length l.started.items ≤ vec_capacity l.viewers;
}

abbrev pub decreases-loop-started : goal.decreases-loop-started
decreases-loop-started l = length l.started.items
