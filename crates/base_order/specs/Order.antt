-- Defines items by their numbers, which are their places in a list that rises.
use Rattle.std.specs.Prelude.{◌≡◌, ◌⊎◌, ℕ, ◌+◌, ◌^◌, ◌<◌, nat_lt, Bool, true, false, cond, not, ◌&&◌, ◌||◌, List, length, map, filter_map, slice_get, slice_index, Option, Some, None}
use Rattle.std.specs.List.{range_with_len}
use Rattle.base.specs.Sets.{Has, IsRising, yields, is_root, roots}
use Rattle.base_bits.specs.Words.{passing}
use Rattle.base_bits.specs.Rows.{Numbers, is_in}

-- whether a relation holds of two items; of what is missing it holds to itself
abbrev pub both : {T : Type 0} → (T → T → Bool) → Option T → Option T → Bool
both rel None None = true
both rel None (Some y) = false
both rel (Some x) None = false
both rel (Some x) (Some y) = rel x y

module _ {T : Type 0} (covers : T → T → Bool) (items : List T) where
  -- whether the item of one number covers that of another one
  unfoldable pub covers_at : ℕ → ℕ → Bool
  covers_at i j = both covers (slice_get items i) (slice_get items j)

  -- whether the item of one number stands over that of another one, and so keeps it from being a root
  abbrev pub stands_at : ℕ → ℕ → Bool
  stands_at i j = not (yields covers_at nat_lt i j)

  -- the numbers of the roots of the items with these numbers
  abbrev pub root_numbers : List ℕ → List ℕ
  root_numbers ns = roots covers_at nat_lt ns

  -- whether a number is a root of a need
  abbrev pub root_at : List ℕ → ℕ → Bool
  root_at need i = is_in i need && is_root covers_at nat_lt need i

  -- the numbers of those that an item covers
  abbrev pub covered_row : ℕ → Numbers
  covered_row i = record { width = length items; members = passing (λ j. covers_at i j) (length items) }

  -- the numbers of those that stand over an item
  abbrev pub above_row : ℕ → Numbers
  above_row i = record { width = length items; members = passing (λ j. stands_at j i) (length items) }

  -- the numbers below n of those that stand over an item
  abbrev pub over_row : ℕ → ℕ → Numbers
  over_row n i = record { width = length items; members = passing (λ j. stands_at j i) n }

  -- for each item the numbers below n that stand over it; for the items before one place those below n + 1
  pub record AreOver (n at : ℕ) (rows : List Numbers) : Type 0 where
    pub long : length rows ≡ length items
    pub each : (i : ℕ) (row : Numbers) → slice_get rows i ≡ Some row → row ≡ over_row (cond (nat_lt i at) (n + 1) n) i

  abbrev pub covered_rows : ℕ → List Numbers
  covered_rows n = map covered_row (range_with_len 0 n)

  abbrev pub above_rows : ℕ → List Numbers
  above_rows n = map above_row (range_with_len 0 n)

  -- the roots are those of the need as it was, and it has changed at no other numbers: what left it is in `gone`, what joined it in `come`
  pub record IsChange (need old gone come : List ℕ) : Type 0 where
    pub was : List ℕ
    pub roots : old ≡ root_numbers was
    pub left : (i : ℕ) → Has i was → Has i need ⊎ Has i gone
    pub joined : (i : ℕ) → Has i need → Has i was ⊎ Has i come

-- the items of some numbers
abbrev pub picked : {T : Type 0} → List T → List ℕ → List T
picked items ns = filter_map (λ n. slice_get items n) ns

-- a word that is no sign, or an item's
abbrev pub IsSign : {T : Type 0} → (T → ℕ) → T → ℕ → Type 0
IsSign marked x sign = (sign ≡ 0) ⊎ (sign ≡ marked x)

-- each item has its sign
pub record HasSigns {T : Type 0} (marked : T → ℕ) (items : List T) (signs : List ℕ) : Type 0 where
  pub long : length signs ≡ length items
  pub each : (k : ℕ) (x : T) → slice_get items k ≡ Some x → IsSign marked x (slice_index signs k)

-- what an order keeps: the items rise, and each has its rows
pub record IsOrder {T : Type 0} (covers before : T → T → Bool) (items : List T) (lower upper : List Numbers) : Type 0 where
  pub rising : IsRising before items
  pub few : length items < 2 ^ 32
  pub covered : lower ≡ covered_rows covers items (length items)
  pub above : upper ≡ above_rows covers items (length items)

-- rows on their way: each number is in the roots as before or as it is to be, and each that left or joined them is told
pub record Moves (final : ℕ → Bool) (roots withdrawn added later gone_since come_since : List ℕ) : Type 0 where
  pub toward : (k : ℕ) → (is_in k later ≡ is_in k roots) ⊎ (is_in k later ≡ final k)
  pub lost : (k : ℕ) → is_in k gone_since ≡ (is_in k withdrawn || (is_in k roots && not (is_in k later)))
  pub won : (k : ℕ) → is_in k come_since ≡ (is_in k added || (is_in k later && not (is_in k roots)))

-- a number is as it is to be. Where it was lost, each new root of the need that it covers is found; where it was won, each root that it covers
-- and that is none now is gone
pub record IsSettled (final : ℕ → Bool) (covers : ℕ → ℕ → Bool) (need : List ℕ) (c : ℕ) (roots withdrawn added : List ℕ) : Type 0 where
  pub own : is_in c roots ≡ final c
  pub lost : is_in c withdrawn ≡ true → (k : ℕ) → covers c k ≡ true → Has k need → final k ≡ true → is_in k roots ≡ true
  pub won : is_in c added ≡ true → (k : ℕ) → covers c k ≡ true → final k ≡ false → is_in k roots ≡ false
