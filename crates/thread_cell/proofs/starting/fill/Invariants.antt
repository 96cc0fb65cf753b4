use Rattle.std.proofs.Common.{◌≡◌, ◌≤◌, ℕ, List, length, map, vec_capacity, Some, slice_get}
use Rattle.filter_text.specs.MessageText.{Each}
use Rattle.thread_cell.specs.declared.link.Link.{Link}
use Rattle.thread_cell.proofs.Filled.{AreSoFar}
use Rattle.thread_cell.proofs.starting.fill.Given as goal

abbrev pub invariant-loop-place : goal.invariant-loop-place
invariant-loop-place g l = record {
  keeps : Each (λ s. s.cell.root.keeps ≡ l.keeps) l.started.items;
  made : AreSoFar l.tables (map (λ r. r.items) l.initial.rows.items) l.place l.started.items;
  rest : (k : ℕ) (r : List Link) → l.place ≤ k → slice_get (map (λ r. r.items) l.initial.rows.items) k ≡ Some r → slice_get (map (λ r. r.items) l.rows.items) k ≡ Some r;
  long : length l.rows.items ≡ length l.initial.rows.items;
  room : length l.initial.rows.items ≤ vec_capacity l.started;
}
