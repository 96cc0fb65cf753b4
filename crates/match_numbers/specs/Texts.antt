-- Defines what the operands of one name say of texts: how many asks a filter has, and how many of them a text misses.
use Rattle.std.specs.Prelude.{◌≡◌, ◌≤◌, ℕ, ◌*◌, List, length}
use Rattle.std.specs.Ordering.{nat_cmp}
use Rattle.std.specs.Cmp.Lexicographic.{slice_cmp}
use Rattle.filter_values.specs.declared.value.Value.TheVariants as values
use Rattle.match_index.specs.Pairs.{tally, Pair}
use Rattle.match_cells.specs.Cells.{Groups, CellParts, asked, total, AreKnown, AreCells}
use Rattle.match_cells.specs.Places.{AreRising, missed_by}
use Rattle.match_numbers.specs.Operands.{AreOf, is_of, is_missed, AreBelow}

-- the operands and what is asked at each say what the pairs say of texts; a pair asks once or twice
pub record AreTextsTold (cuts : List (List ℕ)) (groups : Groups) (pairs : List Pair) : Type 0 where
  pub paired : length cuts ≡ length groups
  pub rising : AreRising (slice_cmp nat_cmp) cuts
  pub least : (x : List ℕ) → AreOf (values.Str x) pairs → (k : ℕ) → tally (is_of k) pairs ≤ asked k groups
  pub most : (x : List ℕ) → AreOf (values.Str x) pairs → (k : ℕ) → asked k groups ≤ 2 * tally (is_of k) pairs
  pub misses : (x : List ℕ) → AreOf (values.Str x) pairs → (k : ℕ) → missed_by (slice_cmp nat_cmp) x k cuts groups ≡ tally (is_missed (values.Str x) k) pairs
  pub known : (span : ℕ) → AreBelow (64 * span) pairs → AreKnown span groups
  pub size : total groups ≤ 2 * length pairs

-- the same where the operands' cells are made
pub record IsTextPart (cuts : List (List ℕ)) (cells : CellParts) (groups : Groups) (pairs : List Pair) : Type 0 where
  pub said : AreTextsTold cuts groups pairs
  pub cut : AreCells (length cells.past.first) groups cells
