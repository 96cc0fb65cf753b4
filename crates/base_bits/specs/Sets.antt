-- Defines sets that are listed, or shown by words, where many stand in vectors that they share.
use Rattle.std.specs.Prelude.{◌≡◌, ◌≢◌, ℕ, ◌^◌, ◌<◌, ◌≤◌, nat_lt, List, [], ◌∷◌, ◌++◌, length, map}
use Rattle.std.specs.List.{AllByRecursion, slice_range}
use Rattle.base.specs.Sets.{Has, IsRising}
use Rattle.base_bits.specs.Words.{members_of}
use Rattle.base_bits.specs.Rows.{Numbers, IsKept}
use Rattle.base_bits.specs.Grid.{Table}
use Rattle.base_bits.specs.declared.place.Place.{Place}
use Rattle.base_bits.specs.declared.place.Place.TheVariants.{Listed, Shown}

-- the members by the words, or, where there are none, those of the list
abbrev pub members_by : List ℕ → List ℕ → ℕ → List ℕ
members_by list [] width = list
members_by list (word ∷ words) width = members_of (word ∷ words) width

abbrev pub set_by : List ℕ → List ℕ → ℕ → Numbers
set_by list words width = record { width = width; members = members_by list words width }

-- the list rises, with its numbers below the width, or the words have no bit from the width on
pub record IsSetBy (list words : List ℕ) (width : ℕ) : Type 0 where
  pub fits : width < 2 ^ 32
  pub rising : IsRising nat_lt list
  pub within : (i : ℕ) → Has i list → i < width
  pub kept : words ≢ [] → IsKept words width

-- the part of the lists at a place
abbrev pub list_at : List ℕ → Place → List ℕ
list_at lists (Listed from to) = slice_range lists from to
list_at lists (Shown from to) = []

-- the part of the words at a place
abbrev pub words_at : List ℕ → Place → List ℕ
words_at words (Listed from to) = []
words_at words (Shown from to) = slice_range words from to

-- the set at a place
abbrev pub set_at : List ℕ → List ℕ → ℕ → Place → Numbers
set_at lists words width place = set_by (list_at lists place) (words_at words place) width

-- the place is one of the lists or of the words
abbrev pub IsInside : List ℕ → List ℕ → Place → Type 0
IsInside lists words (Listed from to) = (from ≤ to) × (to ≤ length lists)
IsInside lists words (Shown from to) = (from ≤ to) × (to ≤ length words)

-- a set stands at the place
pub record IsPlaced (lists words : List ℕ) (width : ℕ) (place : Place) : Type 0 where
  pub inside : IsInside lists words place
  pub set : IsSetBy (list_at lists place) (words_at words place) width

abbrev pub sets_of : List ℕ → List ℕ → ℕ → List Place → Table
sets_of lists words width places = record { width = width; rows = map (set_at lists words width) places }

-- a set stands at each place
pub record ArePlaced (lists words : List ℕ) (width : ℕ) (places : List Place) : Type 0 where
  pub fits : width < 2 ^ 32
  pub each : AllByRecursion (IsPlaced lists words width) places

-- one list begins with the other
abbrev pub Begins : List ℕ → List ℕ → Type 0
Begins old new = (rest : List ℕ) × (new ≡ old ++ rest)
