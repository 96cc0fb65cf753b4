-- Sixty-four counts, each as a number in five bits: the first word has the lowest bit of each.
use Rattle.std.specs.Prelude.{ℕ, ◌+◌, ◌*◌, ◌/◌, ◌%◌, List, Vec, slice_index_or}
use Rattle.std.specs.Int.{bit_at}
use Rattle.std.specs.List.{sum_by}
use Rattle.std.specs.declared.alloc.Global.{Global}
use Rattle.base_bits.specs.Words.{bit}
use Rattle.match_cells.specs.declared.counts.Counts.{Counts}

-- the count at a place
unfoldable pub count_at : Counts → ℕ → ℕ
count_at c q = bit_at c.ones q + 2 * bit_at c.twos q + 4 * bit_at c.fours q + 8 * bit_at c.eights q + 16 * bit_at c.sixteens q

-- how many rows have the number
abbrev pub rows_with : List (Vec ℕ Global) → ℕ → ℕ
rows_with rows k = sum_by (λ (row : Vec ℕ Global). bit row.items k) rows

-- the count of a number among the counts of all, sixty-four in each
abbrev pub goal_at : List Counts → ℕ → ℕ
goal_at goals k = count_at (slice_index_or goals (k / 64) (record { ones = 0; twos = 0; fours = 0; eights = 0; sixteens = 0 })) (k % 64)
