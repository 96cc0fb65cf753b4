use Rattle.std.proofs.Common.{◌≡◌, ◌+◌, ◌↔◌, ℕ, ◌<◌, ◌%◌, get_or}
use Rattle.std.specs.Int.{bit_at}
use Rattle.std.specs.List.{sum_by}
use Rattle.match_cells.specs.Counts.{count_at}
use Rattle.match_cells.proofs.rows.counted.Given as goal

abbrev pub invariant-loop-i : goal.invariant-loop-i
invariant-loop-i l =
    (j q : ℕ) → j < l.i → q < 64
    → (bit_at (get_or l.into j 0) q ≡ 1) ↔ ((count_at (get_or l.first j (record { ones = 0; twos = 0; fours = 0; eights = 0; sixteens = 0 })) q + sum_by (λ row. bit_at (get_or row.items j 0) q) l.rows) % 32 ≡ count_at (get_or l.goals j (record { ones = 0; twos = 0; fours = 0; eights = 0; sixteens = 0 })) q)
