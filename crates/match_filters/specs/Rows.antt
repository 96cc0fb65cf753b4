-- Defines rows of words, and what one attribute adds to them.
use Rattle.std.specs.Prelude.{◌≡◌, ◌++◌, ◌∷◌, [], ◌+◌, ◌*◌, ◌<◌, ◌&&◌, ◌==◌, ℕ, Bool, cond, nat_lt, nat_eq, List, Vec, length, slice_index_or}
use Rattle.std.specs.declared.alloc.Global.{Global}
use Rattle.filter_values.specs.declared.value.Value.{Value}
use Rattle.filter_types.specs.Notice.{Attribute}
use Rattle.match_index.specs.Pairs.{tally, Pair}
use Rattle.match_cells.specs.Counts.{rows_with}
use Rattle.match_numbers.specs.Operands.{AreOf, IsRowOf}
use Rattle.match_filters.specs.Index.{Use}
use Rattle.match_filters.specs.Parts.{is_on, is_missed}

-- each row has so many words
abbrev pub AreLong : ℕ → List (Vec ℕ Global) → Type 0
AreLong span rows = (d : Vec ℕ Global) (r : ℕ) → r < length rows → length (slice_index_or rows r d).items ≡ span

-- one row more: the ids that have pairs all of whose tests the value passes
pub record IsRead (span : ℕ) (v : Value) (pairs : List Pair) (old new : List (Vec ℕ Global)) : Type 0 where
  pub row : Vec ℕ Global
  pub more : new ≡ old ++ row ∷ []
  pub long : length row.items ≡ span
  pub bits : AreOf v pairs → (k : ℕ) → k < 64 * span → IsRowOf v k pairs row.items

-- the filter of this number has constraints in the part on the attribute, and the attribute satisfies them all
abbrev pub is_met : Attribute → List Use → ℕ → Bool
is_met a uses k = nat_lt 0 (tally (λ u. is_on a u.0 && u.1 == k) uses) && nat_eq (tally (λ u. is_missed a u.0 && u.1 == k) uses) 0

-- the rows have one filter more where its part on the attribute is satisfied
pub record HaveMore (span : ℕ) (a : Attribute) (uses : List Use) (old new : List (Vec ℕ Global)) : Type 0 where
  pub long : AreLong span old → AreLong span new
  pub more : (k : ℕ) → k < 64 * span → rows_with new k ≡ rows_with old k + cond (is_met a uses k) 1 0
