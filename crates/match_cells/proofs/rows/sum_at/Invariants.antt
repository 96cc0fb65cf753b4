use Rattle.std.proofs.Common.{◌≡◌, ℕ, ◌+◌, ◌≤◌, ◌-◌, ◌%◌, length, take, get_or}
use Rattle.std.specs.Int.{bit_at}
use Rattle.std.specs.List.{sum_by}
use Rattle.match_cells.specs.Counts.{count_at}
use Rattle.match_cells.proofs.rows.sum_at.Given as goal

abbrev pub invariant-loop-r : goal.invariant-loop-r
invariant-loop-r l = (l.r ≤ length l.rows) × ((q : ℕ) → count_at l.sum q ≡ (count_at l.fn.first q + sum_by (λ row. bit_at (get_or row.items l.i 0) q) (take l.r l.rows)) % 32)

abbrev pub decreases-loop-r : goal.decreases-loop-r
decreases-loop-r l = length l.rows - l.r

abbrev pub invariant-loop-j : goal.invariant-loop-j
invariant-loop-j l = (q : ℕ) → count_at l.sum q ≡ (count_at l.fn.first q + sum_by (λ row. bit_at (get_or row.items l.i 0) q) (take l.j l.rows)) % 32
