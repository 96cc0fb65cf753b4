-- Defines a pool as a finite map from keys to items with their numbers of holders.
use Rattle.std.specs.Prelude.{◌≡◌, ◌≢◌, ◌⊎◌, ◌↔◌, ◌^◌, ◌-◌, ℕ, ◌+◌, ◌<◌, Bool, List, map, filter_map, Option, Some, None, IsSome, slice_index_or, refl}
use Rattle.std.specs.Coded.{Coded, code_by, coded×, coded_ℕ, coded_list, coded_option}
use Rattle.std.specs.Option.{option_map}
use Rattle.base_pool.specs.declared.pool.Counted.{Counted}
use Rattle.base.specs.Sets.{Has, IsRising}

-- the live items in canonical order; at each key the item with the number of its holders, or nothing; and how many fresh items fit without memory
pub record Pooled (T : Type 0) : Type 0 where
  pub items : List T
  pub slots : List (Option (Counted T))
  pub spare : ℕ

abbrev pub counted_code : {T : Type 0} → Coded T → Coded (Counted T)
counted_code {T} code =
    code_by (T × ℕ) (coded× code coded_ℕ) (λ c. (c.item, c.count)) (λ p. record { item = p.0; count = p.1 }) (λ _. refl)

abbrev pub pooled_code : {T : Type 0} → Coded T → Coded (Pooled T)
pooled_code {T} code =
    code_by
    (List T × (List (Option (Counted T)) × ℕ))
    (coded× (coded_list code) (coded× (coded_list (coded_option (counted_code code))) coded_ℕ))
    (λ p. (p.items, (p.slots, p.spare)))
    (λ p. record { items = p.0; slots = p.1.0; spare = p.1.1 })
    (λ _. refl)

module _ {T : Type 0} where
  -- what a key has: an item with the number of its holders, or nothing
  abbrev pub slot : List (Option (Counted T)) → ℕ → Option (Counted T)
  slot slots key = slice_index_or slots key None

  -- the key has an item
  abbrev pub IsLive : List (Option (Counted T)) → ℕ → Type 0
  IsLive slots key = IsSome (slot slots key)

  -- the key is live with this item
  abbrev pub IsAt : List (Option (Counted T)) → ℕ → T → Type 0
  IsAt slots key item = (n : ℕ) × (slot slots key ≡ Some (record { item = item; count = n }))

  -- the item of a live key, and nothing at another one
  abbrev pub item_at : List (Option (Counted T)) → ℕ → Option T
  item_at slots key = option_map (λ c. c.item) (slot slots key)

  -- the items of the live ones of some keys
  unfoldable pub items_of : List (Option (Counted T)) → List ℕ → List T
  items_of slots keys = filter_map (item_at slots) keys

  -- each key is live, with the item that stands beside it
  abbrev pub AreKeysOf : List (Option (Counted T)) → List ℕ → List T → Type 0
  AreKeysOf slots keys items = map (item_at slots) keys ≡ map (λ x. Some x) items

  -- no two live keys have one item
  abbrev pub HasDistinctItems : List (Option (Counted T)) → Type 0
  HasDistinctItems slots = (j k : ℕ) (x : T) → IsAt slots j x → IsAt slots k x → j ≡ k

  -- each live key has at least one holder
  abbrev pub HasHolders : List (Option (Counted T)) → Type 0
  HasHolders slots = (key : ℕ) (c : Counted T) → slot slots key ≡ Some c → 0 < c.count

  -- xs is the set of the live items
  abbrev pub IsSetOfItems : (T → T → Bool) → List (Option (Counted T)) → List T → Type 0
  IsSetOfItems before slots xs = IsRising before xs × ((x : T) → Has x xs ↔ ((key : ℕ) × IsAt slots key x))

  -- every other key is as it was
  abbrev pub SameElsewhere : List (Option (Counted T)) → List (Option (Counted T)) → ℕ → Type 0
  SameElsewhere old new key = (other : ℕ) → other ≢ key → slot new other ≡ slot old other

  -- no live key has the item
  abbrev pub IsAbsent : List (Option (Counted T)) → T → Type 0
  IsAbsent slots item = (key : ℕ) (c : Counted T) → slot slots key ≡ Some c → c.item ≢ item

  -- the item has fewer holders than can be counted
  abbrev pub IsCountable : List (Option (Counted T)) → T → Type 0
  IsCountable slots item = (key : ℕ) (c : Counted T) → slot slots key ≡ Some c → c.item ≡ item → c.count < 2 ^ 64 - 1

  -- the item has one holder more at its live key, or its first one at a fresh key
  abbrev pub IsKeptAt : List (Option (Counted T)) → List (Option (Counted T)) → T → ℕ → Type 0
  IsKeptAt old new item key =
      ((n : ℕ) × (slot old key ≡ Some (record { item = item; count = n })) × (slot new key ≡ Some (record { item = item; count = n + 1 })))
      ⊎ ((slot old key ≡ None) × IsAbsent old item × (slot new key ≡ Some (record { item = item; count = 1 })))
