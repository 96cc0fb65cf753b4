-- Keys that stay with their items while more are kept, and the numbers of their items.
use Rattle.std.proofs.Common.{◌≡◌, ◌⊎◌, inl, inr, ℕ, ◌+◌, ◌<◌, Bool, List, [], ◌∷◌, ◌++◌, length, map, take, set, suc, get_or, slice_get, Option, Some, None, refl, sym, ap, subst, ◌∙◌, arith}
use Rattle.std.proofs.lemmas.Bool.{cases_eq}
use Rattle.std.proofs.lemmas.List.{get_or-set_same, get_or-set_other}
use Rattle.std.specs.Option.{option_map}
use Rattle.base.specs.Laws.{CoverLaws}
use Rattle.base.proofs.Lists.{map-push, take-suc-some}
use Rattle.base_pool.specs.declared.pool.Counted.{Counted}
use Rattle.base_pool.specs.Pool.{slot, IsLive, IsAt, item_at, items_of, AreKeysOf, SameElsewhere, IsKeptAt}
use Rattle.base_pool.specs.Sorted.{place_of, IsIndex}
use Rattle.base_pool.proofs.Order.{trichotomy, some-is}
use Rattle.base_pool.proofs.Listed.{at-item, item-at, items-at, one-item}

-- an item is kept once more
module _ {T : Type 0} (old new : List (Option (Counted T))) (item : T) (key : ℕ) (kept : IsKeptAt old new item key) (others : SameElsewhere old new key) where
  here : item_at new key ≡ Some item
  here = elim kept [ inl k ↦ item-at new key item (k.0 + 1, k.2) | inr k ↦ item-at new key item (1, k.2) ]

  stays : (k : ℕ) (x : T) → item_at old k ≡ Some x → item_at new k ≡ Some x
  stays k x e = elim (cases_eq k key) [
    | inl q ↦ subst (λ z. item_at new k ≡ Some z) (sym (same q kept)) (ap (item_at new) q ∙ here)
    | inr n ↦ ap (option_map (λ c. c.item)) (others k n) ∙ e
  ]
    where
      a : IsAt old k x
      a = at-item old k x e

      same : (q : k ≡ key) → IsKeptAt old new item key → x ≡ item
      same q (inl m) =
          let two : Some (record { item = x; count = a.0 }) ≡ Some (record { item = item; count = m.0 }) = sym a.1 ∙ (ap (slot old) q ∙ m.1) in
          one-item (record { item = x; count = a.0 }) (record { item = item; count = m.0 }) two
      same q (inr m) =
          let no : Some (record { item = x; count = a.0 }) ≡ None = sym a.1 ∙ (ap (slot old) q ∙ m.0) in
          absurd cc

  stay : (keys : List ℕ) (items : List T) → AreKeysOf old keys items → AreKeysOf new keys items
  stay [] [] e = refl
  stay [] (x ∷ xs) e = absurd cc
  stay (k ∷ ks) [] e = absurd cc
  stay (k ∷ ks) (x ∷ xs) e =
      let first : item_at old k ≡ Some x = cc in
      let rest : map (item_at old) ks ≡ map (λ z. Some z) xs = cc in
      ap (λ z. z ∷ map (item_at new) ks) (stays k x first) ∙ ap (λ zs. Some x ∷ zs) (stay ks xs rest)

  -- its key stands behind those of the items before
  pub keys-next : (keys : List ℕ) (items : List T) → AreKeysOf old keys items → AreKeysOf new (keys ++ key ∷ []) (items ++ item ∷ [])
  keys-next keys items e = map-push (item_at new) keys key ∙ ap (λ zs. zs ++ item_at new key ∷ []) (stay keys items e)
      ∙ ap (λ z. map (λ x. Some x) items ++ z ∷ []) here ∙ sym (map-push (λ x. Some x) items item)

module _ {T : Type 0} (covers before : T → T → Bool) (laws : CoverLaws covers before) (slots : List (Option (Counted T))) (sorted : List ℕ) (ix : IsIndex before slots sorted) where
  apart : (j k : ℕ) → j < k → k < length sorted → place_of sorted j ≡ place_of sorted k → ⊥
  apart j k l w e =
      let c = some-is (slot slots (place_of sorted k)) (ix.live k w) in
      grind (arith, ix.rising j k c.0 c.0 l w (ap (slot slots) e ∙ c.1) c.1, laws.irreflexive c.0.item)

  -- one number more is written at its key
  pub written : (places : List ℕ) (number key : ℕ) → number < length sorted → key ≡ place_of sorted number → key < length places
      → ((k : ℕ) → k < number → get_or places (place_of sorted k) 0 ≡ k)
      → (k : ℕ) → k < number + 1 → get_or (set places key number) (place_of sorted k) 0 ≡ k
  written places number key w e long done k l = go (trichotomy k number)
    where
      go : (k < number) ⊎ ((k ≡ number) ⊎ (number < k)) → get_or (set places key number) (place_of sorted k) 0 ≡ k
      go (inl s) = get_or-set_other places key (place_of sorted k) number 0 (λ q. apart k number s w (q ∙ e)) ∙ done k s
      go (inr (inl q)) = ap (λ z. get_or (set places key number) z 0) (ap (place_of sorted) q ∙ sym e) ∙ get_or-set_same places key number 0 long ∙ sym q
      go (inr (inr s)) = absurd (omega arith)

  -- the number of a live key's item
  pub number-at : (places : List ℕ) → ((k : ℕ) → k < length sorted → (place_of sorted k < length places) × (get_or places (place_of sorted k) 0 ≡ k))
      → (key : ℕ) → IsLive slots key → (key < length places) × (slice_get (items_of slots sorted) (get_or places key 0) ≡ item_at slots key)
  number-at places each key live =
      let at = ix.listed key live in
      let c = some-is (slot slots key) live in
      let there : IsAt slots (place_of sorted at.0) c.0.item = (c.0.count, ap (slot slots) at.2 ∙ c.1) in
      let number = each at.0 at.1 in (
        subst (λ z. z < length places) at.2 number.0,
        ap (slice_get (items_of slots sorted)) (subst (λ z. get_or places z 0 ≡ at.0) at.2 number.1) ∙ items-at slots sorted ix.live at.0 c.0.item at.1 there
            ∙ sym (item-at slots key c.0.item (c.0.count, c.1)),
      )

-- two lists with one image grow by members with one image
pub mapped-next : {A B C : Type 0} (f : A → C) (g : B → C) (xs : List A) (ys : List B) (i : ℕ) (a : A) (b : B) → slice_get ys i ≡ Some b → f a ≡ g b
    → map f xs ≡ map g (take i ys) → map f (xs ++ a ∷ []) ≡ map g (take (i + 1) ys)
mapped-next f g xs ys i a b e same done =
    let next : i + 1 ≡ suc i = omega arith in
    map-push f xs a ∙ ap (λ zs. zs ++ f a ∷ []) done ∙ ap (λ z. map g (take i ys) ++ z ∷ []) same ∙ sym (map-push g (take i ys) b)
    ∙ ap (map g) (sym (take-suc-some ys i b e)) ∙ ap (λ n. map g (take n ys)) (sym next)
