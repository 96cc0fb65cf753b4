-- What contracts see of a grid: its width, and the list of its rows.
use Rattle.std.specs.Prelude.{◌≡◌, ℕ, zero, suc, ◌+◌, ◌*◌, ◌/◌, ◌%◌, ◌^◌, ◌<◌, ◌==◌, nat_lt, List, [], ◌∷◌, ◌++◌, length, slice_index_or, refl}
use Rattle.std.specs.Coded.{Coded, code_by, coded×, coded_ℕ, coded_list}
use Rattle.base.specs.Sets.{Has, put_in, minus}
use Rattle.base_bits.specs.Words.{bit, passing}
use Rattle.base_bits.specs.Rows.{Numbers, numbers_code}

-- rows of this width
pub record Table : Type 0 where
  pub width : ℕ
  pub rows : List Numbers

abbrev pub table_code : Coded Table
table_code =
    code_by (ℕ × List Numbers) (coded× coded_ℕ (coded_list numbers_code)) (λ t. (t.width, t.rows)) (λ p. record { width = p.0; rows = p.1 }) (λ _. refl)

-- a row by its number
abbrev pub row_of : List Numbers → ℕ → Numbers
row_of rows row = slice_index_or rows row (record { width = 0; members = [] })

-- a set and a number more
abbrev pub with_number : ℕ → Numbers → Numbers
with_number i s = record { width = s.width; members = put_in nat_lt i s.members }

-- a set without a number
abbrev pub without_number : ℕ → Numbers → Numbers
without_number i s = record { width = s.width; members = minus nat_lt s.members (i ∷ []) }

-- a member of a row whose number two lists have in common
abbrev pub IsJoinedFrom : List Numbers → List ℕ → List ℕ → ℕ → Type 0
IsJoinedFrom rows xs ys i = (row : ℕ) × Has row xs × Has row ys × Has i (row_of rows row).members

-- the place of the bit of a number in a row: the first words of all rows stand first, then their second ones
abbrev pub spot : ℕ → ℕ → ℕ → ℕ
spot count row i = (i / 64 * count + row) * 64 + i % 64

-- what a function gives for each number below one
abbrev pub each_below : {T : Type 0} → (ℕ → T) → ℕ → List T
each_below f zero = []
each_below f (suc n) = each_below f n ++ f n ∷ []

-- a row by its bits
abbrev pub row_at : List ℕ → ℕ → ℕ → ℕ → Numbers
row_at words count width row = record { width = width; members = passing (λ i. bit words (spot count row i) == 1) width }

abbrev pub table_of : List ℕ → ℕ → ℕ → Table
table_of words count width = record { width = width; rows = each_below (row_at words count width) count }

-- as many words as rows of this span ask for, with no bit from the width on
pub record IsGrid (words : List ℕ) (span count width : ℕ) : Type 0 where
  pub long : length words ≡ span * count
  pub spanned : span ≡ (width + 63) / 64
  pub fits : width < 2 ^ 32
  pub few : count < 2 ^ 32
  pub within : (row i : ℕ) → row < count → i < 64 * span → bit words (spot count row i) ≡ 1 → i < width
