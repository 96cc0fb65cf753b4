-- Defines rows of the numbers that are held from places, and how many rows have each number.
use Rattle.std.specs.Prelude.{◌≡◌, ℕ, zero, suc, ◌<◌, ◌^◌, Bool, false, ◌||◌, ◌&&◌, nat_lt, List, [], ◌∷◌, length, slice_index, refl}
use Rattle.std.specs.Coded.{Coded, code_by, coded×, coded_ℕ, coded_list}
use Rattle.std.specs.List.{list_any}
use Rattle.std.proofs.Math.ListN.{get_or}
use Rattle.base.specs.Sets.{Has, minus, union}
use Rattle.base.specs.Numbers.{sum_over, count}
use Rattle.base_bits.specs.Words.{passing}
use Rattle.base_bits.specs.Rows.{Numbers, numbers_code, is_in}

-- for each place the row of what is held from it; each row has the width
pub record Held : Type 0 where
  pub width : ℕ
  pub rows : List Numbers

abbrev pub held_code : Coded Held
held_code = code_by (ℕ × List Numbers) (coded× coded_ℕ (coded_list numbers_code)) (λ s. (s.width, s.rows)) (λ p. record { width = p.0; rows = p.1 }) (λ _. refl)

-- the row at a place
abbrev pub row_at : List Numbers → ℕ → Numbers
row_at rows p = get_or rows p (record { width = 0; members = [] })

-- a row without some numbers, and with some more
abbrev pub without : Numbers → List ℕ → Numbers
without row out = record { width = row.width; members = minus nat_lt row.members out }

abbrev pub with : Numbers → List ℕ → Numbers
with row add = record { width = row.width; members = union nat_lt add row.members }

-- how many rows have a number
abbrev pub holders_of : ℕ → List Numbers → ℕ
holders_of i rows = sum_over (λ r. count (is_in i r.members)) rows

-- whether a row at another place passes a test
abbrev pub elsewhere : (Numbers → Bool) → ℕ → List Numbers → Bool
elsewhere test p [] = false
elsewhere test zero (r ∷ rs) = list_any test rs
elsewhere test (suc p) (r ∷ rs) = test r || elsewhere test p rs

-- whether a number is held from another place
unfoldable pub needs : List Numbers → ℕ → ℕ → Bool
needs rows p i = elsewhere (λ r. is_in i r.members) p rows

-- the numbers that are held from other places
abbrev pub needed : ℕ → List Numbers → ℕ → List ℕ
needed width rows p = passing (λ i. needs rows p i) width

-- each row has the width, and each number its count
pub record IsCounted (width : ℕ) (counts : List ℕ) (rows : List Numbers) : Type 0 where
  pub wide : (r : Numbers) → Has r rows → r.width ≡ width
  pub long : length counts ≡ width
  pub few : length rows < 2 ^ 32
  pub counted : (i : ℕ) → slice_index counts i ≡ holders_of i rows

-- whether a number is held from another place and offered at this one
abbrev pub wanted : List ℕ → List Numbers → ℕ → ℕ → Bool
wanted offered rows p i = needs rows p i && is_in i offered

-- the numbers that are held from other places and offered at this one
abbrev pub wanted_numbers : ℕ → List ℕ → List Numbers → ℕ → List ℕ
wanted_numbers width offered rows p = passing (wanted offered rows p) width
