-- The roots by numbers are the roots of the items with these numbers.
use Rattle.std.proofs.Common.{◌≡◌, inl, inr, ℕ, zero, suc, ◌<◌, nat_lt, Bool, true, false, not, ◌&&◌, ◌||◌, cond, List, [], ◌∷◌, length, filter, slice_get, Some, refl, sym, ap, ap₂, subst, ◌∙◌, arith}
use Rattle.std.proofs.lemmas.Bool.{cases_order, lt-ltb, le-ltb, false_from_ne_true}
use Rattle.std.proofs.lemmas.Option.{same_Some}
use Rattle.base.specs.Laws.{CoverLaws}
use Rattle.base.specs.Sets.{Has, IsRising, yields, all_pass, is_root, roots}
use Rattle.base_order.specs.Order.{covers_at, picked, root_numbers}
use Rattle.base_order.proofs.Rows.{cover-at}
use Rattle.base.proofs.Sets.{get-has}
use Rattle.base.proofs.Lists.{get-below}

module _ {T : Type 0} {covers before : T → T → Bool} (laws : CoverLaws covers before) where
  pub rising-at : (xs : List T) → IsRising before xs → (i j : ℕ) (x y : T) → i < j → slice_get xs i ≡ Some x → slice_get xs j ≡ Some y → before x y ≡ true
  rising-at [] r i j x y l e f = absurd cc
  rising-at (z ∷ zs) r zero zero x y l e f = absurd (omega arith)
  rising-at (z ∷ zs) r zero (suc j) x y l e f = subst (λ w. before w y ≡ true) (same_Some z x e) (r.0 y (get-has zs j y f))
  rising-at (z ∷ zs) r (suc i) zero x y l e f = absurd (omega arith)
  rising-at (z ∷ zs) r (suc i) (suc j) x y l e f = rising-at zs r.1 i j x y (omega arith) e f

  order-at : (xs : List T) → IsRising before xs → (i j : ℕ) (x y : T) → slice_get xs i ≡ Some x → slice_get xs j ≡ Some y → nat_lt i j ≡ before x y
  order-at xs r i j x y e f = elim (cases_order i j) [
    | inl q ↦
        let s : x ≡ y = same_Some x y (sym e ∙ (ap (slice_get xs) q ∙ f)) in
        le-ltb i j (omega arith) ∙ sym (subst (λ z. before x z ≡ false) s (laws.irreflexive x))
    | inr (inl l) ↦ lt-ltb i j l ∙ sym (rising-at xs r i j x y l e f)
    | inr (inr l) ↦
        let d = rising-at xs r j i y x l f e in
        le-ltb i j (omega arith) ∙ sym (false_from_ne_true (before x y) (λ t. absurd (grind (arith, laws.irreflexive x, laws.chain x y x t d))))
  ]

  module _ (items : List T) where
    -- a test of numbers that is one of their items
    pub all-picked : (p : ℕ → Bool) (q : T → Bool) (ns : List ℕ) → ((i : ℕ) → Has i ns → i < length items) → ((i : ℕ) (x : T) → slice_get items i ≡ Some x → p i ≡ q x) → all_pass p ns ≡ all_pass q (picked items ns)
    all-picked p q [] l s = refl
    all-picked p q (n ∷ ns) l s =
        let x = get-below items n (l n (inl refl)) in
        rw x.1 (ap₂ (λ a b. a && b) (s n x.0 x.1) (all-picked p q ns (λ i h. l i (inr h)) s))

    pub filter-picked : (p : ℕ → Bool) (q : T → Bool) (ns : List ℕ) → ((i : ℕ) → Has i ns → i < length items) → ((i : ℕ) (x : T) → slice_get items i ≡ Some x → p i ≡ q x) → picked items (filter p ns) ≡ filter q (picked items ns)
    filter-picked p q [] l s = refl
    filter-picked p q (n ∷ ns) l s =
        let x = get-below items n (l n (inl refl)) in
        go (p n) refl x.0 x.1 (filter-picked p q ns (λ i h. l i (inr h)) s)
      where
        go : (b : Bool) → p n ≡ b → (x : T) → slice_get items n ≡ Some x → picked items (filter p ns) ≡ filter q (picked items ns) → picked items (cond (p n) (n ∷ filter p ns) (filter p ns)) ≡ filter q (picked items (n ∷ ns))
        go true e x f ih =
            let k : q x ≡ true = sym (s n x f) ∙ e in
            rw (e, f, k) (ap (λ zs. x ∷ zs) ih)
        go false e x f ih =
            let k : q x ≡ false = sym (s n x f) ∙ e in
            rw (e, f, k) ih

    module _ (rising : IsRising before items) where
      yields-at : (g i : ℕ) (y x : T) → slice_get items g ≡ Some y → slice_get items i ≡ Some x → yields (covers_at covers items) nat_lt g i ≡ yields covers before y x
      yields-at g i y x e f =
          ap₂ (λ (a : Bool) (r : Bool × Bool). not a || (r.0 && not r.1)) (cover-at covers items g i y x e f)
          (ap₂ (λ (a b : Bool). (a, b)) (cover-at covers items i g x y f e) (order-at items rising g i y x e f))

      pub roots-picked : (ns : List ℕ) → ((i : ℕ) → Has i ns → i < length items) → picked items (root_numbers covers items ns) ≡ roots covers before (picked items ns)
      roots-picked ns l =
          filter-picked (is_root (covers_at covers items) nat_lt ns) (is_root covers before (picked items ns)) ns l
          (λ i x f. all-picked (λ g. yields (covers_at covers items) nat_lt g i) (λ y. yields covers before y x) ns l (λ g y e. yields-at g i y x e f))
