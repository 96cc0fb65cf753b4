-- Defines lines of ids under keys, where the keys rise.
use Rattle.std.specs.Prelude.{◌≡◌, ◌<◌, ◌≤◌, ℕ, Bool, false, List, [], ◌∷◌, length, map, slice_index_or, if◌then◌else◌}
use Rattle.std.specs.declared.cmp.Ordering.{Ordering}
use Rattle.std.specs.declared.cmp.Ordering.TheVariants.{Less, Equal, Greater}
use Rattle.std.specs.Ordering.{is_gt}
use Rattle.match_index.specs.declared.sides.Sides.{Sides}

-- a key that compares so is on a side that is asked for
abbrev pub on_side : Sides → Ordering → Bool
on_side sides Less = sides.below
on_side sides Equal = sides.equal
on_side sides Greater = sides.above

module _ {K : Type 0} where
  -- no key of a list of keys is greater than a later one
  abbrev pub AreSorted : (K → K → Ordering) → List K → Type 0
  AreSorted order keys = (d : K) (j k : ℕ) → j ≤ k → k < length keys → is_gt (order (slice_index_or keys j d) (slice_index_or keys k d)) ≡ false

  -- the key at a place of the list
  abbrev pub key_in : List (K × ℕ) → K × ℕ → ℕ → K
  key_in pairs d k = (slice_index_or pairs k d).0

  -- no key is greater than a later one
  abbrev pub HaveSortedKeys : (K → K → Ordering) → List (K × ℕ) → Type 0
  HaveSortedKeys order pairs = (d : K × ℕ) (j k : ℕ) → j ≤ k → k < length pairs → is_gt (order (key_in pairs d j) (key_in pairs d k)) ≡ false

  -- each id with what its key says
  abbrev pub told : {N : Type 0} → (K → N) → List (K × ℕ) → List (N × ℕ)
  told said pairs = map (λ x. (said x.0, x.1)) pairs

  -- the ids whose key passes
  abbrev pub ids_with : (K → Bool) → List (K × ℕ) → List ℕ
  ids_with q [] = []
  ids_with q (x ∷ pairs) = if q x.0 then x.1 ∷ ids_with q pairs else ids_with q pairs
