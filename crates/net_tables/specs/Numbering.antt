-- How the code numbers scripts; no promise to a caller speaks of it.
use Rattle.std.specs.Prelude.{◌≡◌, ◌≤◌, ℕ, Bool, List, [], ◌∷◌, slice_get, Option, Some}
use Rattle.base.specs.Sets.{set_of}
use Rattle.base_pool.specs.declared.pool.Counted.{Counted}
use Rattle.base_pool.specs.Pool.{Pooled, slot, AreKeysOf}
use Rattle.filter_text.specs.Messages.{Lists}
use Rattle.net_tables.specs.Known.{PublicationParts}
use Rattle.net_tables.specs.Numbered.{Catalogued}

-- the first of the numbers are the places of these items, one after the other
abbrev pub AreNumbersOf : {T : Type 0} → List T → List ℕ → List T → Type 0
AreNumbersOf known numbers [] = Unit {0}
AreNumbersOf known [] (x ∷ xs) = ⊥
AreNumbersOf known (n ∷ ns) (x ∷ xs) = (slice_get known n ≡ Some x) × AreNumbersOf known ns xs

-- likewise, of the filters and of the advertisements that commands name
pub record AreNumbers (filters adverts : Lists) (filter_numbers advert_numbers : List ℕ) (named_filters named_adverts : Lists) : Type 0 where
  pub filter : AreNumbersOf filters filter_numbers named_filters
  pub advert : AreNumbersOf adverts advert_numbers named_adverts

-- no item has more holders than this
abbrev pub AreCounted : {T : Type 0} → ℕ → List (Option (Counted T)) → Type 0
AreCounted {T} most slots = (key : ℕ) (c : Counted T) → slot slots key ≡ Some c → c.count ≤ most

-- a pool has exactly the items that are named, and the keys are theirs, in the order in which they are named
pub record AreKept {T : Type 0} (before : T → T → Bool) (pool : Pooled T) (keys : List ℕ) (named : List T) : Type 0 where
  pub items : pool.items ≡ set_of before named
  pub at : AreKeysOf pool.slots keys named

abbrev pub catalogue_of : Lists → Lists → List PublicationParts → Catalogued
catalogue_of filters adverts publications = record { filters = filters; adverts = adverts; publications = publications }
