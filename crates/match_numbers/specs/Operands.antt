-- Defines what operands of one name say of the pairs that were put: how many a filter has, and how many of them a value misses.
use Rattle.std.specs.Prelude.{◌≡◌, ◌≤◌, ◌<◌, ◌↔◌, ◌⊎◌, ℕ, ℤ, ◌*◌, ◌&&◌, ◌||◌, ◌==◌, not, nat_le, Bool, Some, List, length}
use Rattle.std.specs.Ordering.{int_cmp}
use Rattle.filter_values.specs.declared.value.Kind.{Kind}
use Rattle.filter_values.specs.declared.value.Kind.TheVariants as kinds
use Rattle.filter_values.specs.declared.value.Value.{Value}
use Rattle.filter_values.specs.Value.{kind_of, same_kind}
use Rattle.base_bits.specs.Words.{bit}
use Rattle.match_index.specs.Pairs.{tally, Pair, Test, passes}
use Rattle.match_index.specs.Heads.{is_pattern_op}
use Rattle.match_cells.specs.Cells.{Groups, CellParts, asked, total, AreKnown, AreCells}
use Rattle.match_cells.specs.Places.{AreRising, missed_by}
use Rattle.match_numbers.specs.Keys.{key_of}

-- the kind is int, bool or time
abbrev pub IsNumeric : Kind → Type 0
IsNumeric kind = (kind ≡ kinds.Int) ⊎ ((kind ≡ kinds.Bool) ⊎ (kind ≡ kinds.Time))

-- the test is of a pattern, which has no place among operands in their order
abbrev pub is_apart : Test → Bool
is_apart t = same_kind t.kind kinds.Str && is_pattern_op t.op

-- the pair is of another kind than the value, or of a pattern
abbrev pub is_other : Value → Pair → Bool
is_other v p = not (same_kind p.0.kind (kind_of v)) || is_apart p.0

-- all pairs are of the value's kind, and none is of a pattern
abbrev pub AreOf : Value → List Pair → Type 0
AreOf v pairs = tally (is_other v) pairs ≡ 0

-- the pair is of this id
abbrev pub is_of : ℕ → Pair → Bool
is_of k p = p.1 == k

-- the pair is of this id, and the value doesn't pass its test
abbrev pub is_missed : Value → ℕ → Pair → Bool
is_missed v k p = (p.1 == k) && not (passes v p.0)

-- all ids are below the bound
abbrev pub AreBelow : ℕ → List Pair → Type 0
AreBelow bound pairs = tally (λ p. nat_le bound p.1) pairs ≡ 0

-- the words have this id exactly where it has pairs and the value passes the tests of all of them
abbrev pub IsRowOf : Value → ℕ → List Pair → List ℕ → Type 0
IsRowOf v k pairs words = (bit words k ≡ 1) ↔ ((0 < tally (is_of k) pairs) × (tally (is_missed v k) pairs ≡ 0))

-- the operands and what is asked at each say what the pairs say of numbers
pub record IsTold (cuts : List ℤ) (groups : Groups) (pairs : List Pair) : Type 0 where
  pub paired : length cuts ≡ length groups
  pub rising : AreRising int_cmp cuts
  pub asks : (v : Value) → IsNumeric (kind_of v) → AreOf v pairs → (k : ℕ) → asked k groups ≡ tally (is_of k) pairs
  pub misses : (v : Value) → IsNumeric (kind_of v) → AreOf v pairs → (k : ℕ) → missed_by int_cmp (key_of (Some v)) k cuts groups ≡ tally (is_missed v k) pairs
  pub known : (span : ℕ) → AreBelow (64 * span) pairs → AreKnown span groups
  pub size : total groups ≤ length pairs

-- the same where the operands' cells are made
pub record IsPart (cuts : List ℤ) (cells : CellParts) (groups : Groups) (pairs : List Pair) : Type 0 where
  pub said : IsTold cuts groups pairs
  pub cut : AreCells (length cells.past.first) groups cells
