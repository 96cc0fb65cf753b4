use Rattle.std.proofs.Common.{◌≡◌, ◌+◌, ℕ, length, drop}
use Rattle.match_cells.specs.Counts.{goal_at}
use Rattle.match_filters.specs.Parts.{parts_of}
use Rattle.match_filters.proofs.goals.count_parts.Given as goal

abbrev pub invariant-loop-i : goal.invariant-loop-i
invariant-loop-i l = record {
  length : length l.goals ≡ length l.fn.goals;
  parts : goal_at l.goals l.id + parts_of (drop l.i l.constraints) ≡ parts_of l.constraints;
  others : (k : ℕ) → (k ≡ l.id → ⊥) → goal_at l.goals k ≡ goal_at l.fn.goals k;
}
