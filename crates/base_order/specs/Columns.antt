-- Which items may be covered, by the bits of their signatures.
use Rattle.std.specs.Prelude.{◌≡◌, ◌⊎◌, ℕ, ◌<◌, ◌==◌, Bool, true, ◌||◌, bit_and, List, length, map, slice_index}
use Rattle.std.specs.Int.{bit_at}
use Rattle.std.specs.List.{range_with_len}
use Rattle.base.specs.Sets.{Has}
use Rattle.base_bits.specs.Words.{passing}
use Rattle.base_bits.specs.Rows.{Numbers}
use Rattle.base_order.specs.Order.{covers_at}

-- a signature has the bit, or tells nothing
abbrev pub may_have : ℕ → ℕ → Bool
may_have sign bit = (sign == 0) || (bit_at sign bit == 1)

-- by their signatures, the one item may cover the other
abbrev pub MayCover : ℕ → ℕ → Type 0
MayCover sign other = (sign ≡ 0) ⊎ ((other ≡ 0) ⊎ (bit_and sign other ≡ sign))

-- each item has a word, by which it may cover what it covers
pub record Narrows {T : Type 0} (covers : T → T → Bool) (items : List T) (words : List ℕ) : Type 0 where
  pub long : length words ≡ length items
  pub never_misses : (i j : ℕ) → i < length items → j < length items → covers_at covers items i j ≡ true
      → MayCover (slice_index words i) (slice_index words j)

-- the numbers of the items whose signature may have the bit
abbrev pub column_row : List ℕ → ℕ → Numbers
column_row signs bit = record { width = length signs; members = passing (λ j. may_have (slice_index signs j) bit) (length signs) }

abbrev pub column_rows : List ℕ → ℕ → List Numbers
column_rows signs n = map (column_row signs) (range_with_len 0 n)

-- all numbers
abbrev pub full_row : ℕ → Numbers
full_row n = record { width = n; members = passing (λ j. true) n }

-- what the item of a number covers is among these
abbrev pub HasCovered : {T : Type 0} → (T → T → Bool) → List T → ℕ → List ℕ → Type 0
HasCovered covers items i members = (j : ℕ) → j < length items → covers_at covers items i j ≡ true → Has j members
