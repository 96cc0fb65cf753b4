-- What counts and words say of the filters that ask something.
use Rattle.std.specs.Prelude.{◌≡◌, ◌↔◌, ℕ, ◌<◌, Bool, true, List, length, slice_index, slice_index_or}
use Rattle.base_bits.specs.Words.{bit}
use Rattle.match_cells.specs.declared.ask.Ask.{Ask}

-- the filters of all asks are among these
abbrev pub AreMembers : (ℕ → Bool) → List Ask → Type 0
AreMembers members asks = (d : Ask) (i : ℕ) → i < length asks → members (slice_index_or asks i d).id ≡ true

-- the words have the members whose count is nought
abbrev pub Show : (ℕ → Bool) → List ℕ → List ℕ → Type 0
Show members counts words = (k : ℕ) → (bit words k ≡ 1) ↔ ((members k ≡ true) × (slice_index counts k ≡ 0))
