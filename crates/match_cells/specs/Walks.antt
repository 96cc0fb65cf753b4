-- What is known in each cell on the way over them.
use Rattle.std.specs.Prelude.{◌≡◌, ℕ, List, nat_lt, slice_index}
use Rattle.match_cells.specs.Changes.{Past, present}
use Rattle.match_cells.specs.Cells.{Groups, lost_in, asked}
use Rattle.match_cells.specs.Moves.{Show}

-- in the cell the counts are of what is missed there, and the history shows the filters of which nothing is
pub record IsCounted (groups : Groups) (cell : ℕ) (counts : List ℕ) (h : Past) : Type 0 where
  pub each : (k : ℕ) → slice_index counts k ≡ lost_in k groups cell
  pub shows : Show (λ k. nat_lt 0 (asked k groups)) counts (present h)
