-- Defines the live keys of a pool, sorted by their items.
use Rattle.std.specs.Prelude.{◌≡◌, ℕ, ◌<◌, ◌≤◌, Bool, true, List, length, Option, Some, IsSome, slice_index_or}
use Rattle.base_pool.specs.declared.pool.Counted.{Counted}
use Rattle.base_pool.specs.Pool.{slot, IsAbsent}

-- the key at a place
abbrev pub place_of : List ℕ → ℕ → ℕ
place_of sorted k = slice_index_or sorted k 0

module _ {T : Type 0} where
  -- exactly the live keys, strictly rising by their items; each has a holder
  pub record IsIndex (before : T → T → Bool) (slots : List (Option (Counted T))) (sorted : List ℕ) : Type 0 where
    pub live : (k : ℕ) → k < length sorted → IsSome (slot slots (place_of sorted k))
    pub listed : (key : ℕ) → IsSome (slot slots key) → (k : ℕ) × (k < length sorted) × (place_of sorted k ≡ key)
    pub rising : (j k : ℕ) (x y : Counted T) → j < k → k < length sorted → slot slots (place_of sorted j) ≡ Some x
        → slot slots (place_of sorted k) ≡ Some y → before x.item y.item ≡ true
    pub counted : (key : ℕ) (c : Counted T) → slot slots key ≡ Some c → 0 < c.count

  -- the item is not live, and would stand at this place
  pub record IsGap (before : T → T → Bool) (slots : List (Option (Counted T))) (sorted : List ℕ) (item : T) (i : ℕ) : Type 0 where
    pub within : i ≤ length sorted
    pub below : (k : ℕ) (x : Counted T) → k < i → slot slots (place_of sorted k) ≡ Some x → before x.item item ≡ true
    pub above : (k : ℕ) (x : Counted T) → i ≤ k → k < length sorted → slot slots (place_of sorted k) ≡ Some x → before item x.item ≡ true
    pub absent : IsAbsent slots item
