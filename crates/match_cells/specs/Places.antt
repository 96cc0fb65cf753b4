-- The cell of a value among operands that rise.
use Rattle.std.specs.Prelude.{◌≡◌, ℕ, ◌+◌, ◌*◌, ◌<◌, true, List, [], ◌∷◌, length, slice_index_or}
use Rattle.std.specs.declared.cmp.Ordering.{Ordering}
use Rattle.std.specs.declared.cmp.Ordering.TheVariants.{Less, Equal, Greater}
use Rattle.std.specs.Ordering.{is_lt, is_eq, is_gt}
use Rattle.match_cells.specs.declared.ask.Side.{Side}
use Rattle.match_cells.specs.declared.ask.Side.TheVariants as sides
use Rattle.match_cells.specs.Asks.{missed}
use Rattle.match_cells.specs.Cells.{Groups}

-- where a value stands beside an operand that compares so with it
abbrev pub side_of : Ordering → Side
side_of Less = sides.Above
side_of Equal = sides.At
side_of Greater = sides.Below

module _ {K : Type 0} (order : K → K → Ordering) where
  -- each operand is less than a later one
  abbrev pub AreRising : List K → Type 0
  AreRising cuts = (d : K) (j k : ℕ) → j < k → k < length cuts → is_lt (order (slice_index_or cuts j d) (slice_index_or cuts k d)) ≡ true

  -- the value falls in the cell
  pub record IsCell (x : K) (cuts : List K) (cell : ℕ) : Type 0 where
    pub before : (d : K) (k : ℕ) → k < length cuts → 2 * k + 1 < cell → is_lt (order (slice_index_or cuts k d) x) ≡ true
    pub there : (d : K) (k : ℕ) → k < length cuts → 2 * k + 1 ≡ cell → is_eq (order (slice_index_or cuts k d) x) ≡ true
    pub behind : (d : K) (k : ℕ) → k < length cuts → cell < 2 * k + 1 → is_gt (order (slice_index_or cuts k d) x) ≡ true

  -- how many asks of a filter the value doesn't meet
  abbrev pub missed_by : K → ℕ → List K → Groups → ℕ
  missed_by x k [] groups = 0
  missed_by x k (u ∷ us) [] = 0
  missed_by x k (u ∷ us) (g ∷ gs) = missed (side_of (order u x)) k g.items + missed_by x k us gs
