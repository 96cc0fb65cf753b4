use Rattle.std.proofs.Common.{◌≡◌, ◌<◌, ◌≤◌, ℕ, List, length, map, Some, slice_get, Vec, Global}
use Rattle.server_control.specs.Held.{NetHeld, held_in}
use Rattle.thread_cell.specs.declared.link.Link.{Link}
use Rattle.thread_cell.specs.Cell.{CellParts}
use Rattle.thread_cell.specs.Relinking.{HasMoved}
use Rattle.thread_cell.specs.Entered.{AreSameCells}
use Rattle.thread_cell.proofs.relinking.move_all.Given as goal

abbrev pub invariant-loop-k : goal.invariant-loop-k
invariant-loop-k g l = record {
  same : AreSameCells l.initial.cells l.cells;
  moved : (k : ℕ) (a b : CellParts) (links : Vec NetHeld Global) (row : List Link) → k < l.k → slice_get l.initial.cells k ≡ Some a → slice_get l.cells k ≡ Some b
      → slice_get l.given k ≡ Some links → slice_get (map (λ r. r.items) l.initial.rows.items) k ≡ Some row → HasMoved l.phase l.clock (held_in links.items) row a b;
  left : (k : ℕ) → l.k ≤ k → slice_get l.cells k ≡ slice_get l.initial.cells k;
  rest : (k : ℕ) (r : List Link) → l.k ≤ k → slice_get (map (λ r. r.items) l.initial.rows.items) k ≡ Some r → slice_get (map (λ r. r.items) l.rows.items) k ≡ Some r;
  long : length l.rows.items ≡ length l.initial.rows.items;
}
