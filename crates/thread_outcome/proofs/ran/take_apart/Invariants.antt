use Rattle.std.proofs.Common.{◌≡◌, ◌≤◌, ◌+◌, ◌++◌, length, map, vec_capacity}
use Rattle.thread_cell.specs.Together.{keepings}
use Rattle.thread_outcome.specs.Outcome.{cores_of, journals_by}
use Rattle.thread_outcome.proofs.ran.take_apart.Given as goal

abbrev pub invariant-loop-cells : goal.invariant-loop-cells
invariant-loop-cells g l = record {
  cores : l.parts.cores.items ++ cores_of l.cells.items ≡ cores_of l.initial.cells.items;
  journals : map (λ journal. journal.entries) l.parts.journals.items ++ journals_by l.cells.items ≡ journals_by l.initial.cells.items;
  kept : map (λ journal. journal.kept) l.parts.journals.items ++ keepings l.cells.items ≡ keepings l.initial.cells.items;
  long : length l.parts.journals.items ≡ length l.parts.cores.items;
  room : length l.parts.cores.items + length l.cells.items ≤ vec_capacity l.parts.cores;
  room_journals : length l.parts.cores.items + length l.cells.items ≤ vec_capacity l.parts.journals;
}

abbrev pub decreases-loop-cells : goal.decreases-loop-cells
decreases-loop-cells g l = length l.cells.items
