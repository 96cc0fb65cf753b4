-- The items and pairs that numbers and rows represent.
use Rattle.std.proofs.Common.{◌≡◌, ◌≢◌, ◌⊎◌, ◌↔◌, inl, inr, ℕ, zero, suc, ◌<◌, ◌==◌, nat_lt, Bool, true, false, not, cond, ◌||◌, ◌&&◌, List, [], ◌∷◌, ◌++◌, length, map, filter, replicate, set, slice_get, Option, Some, None, refl, sym, ap, ap₂, subst, ◌∙◌, arith, eqb-true, eq-eqb}
use Rattle.std.specs.List.{list_any}
use Rattle.std.proofs.lemmas.List.{get_or-set_same, get_or-set_other}
use Rattle.std.proofs.lemmas.Bool.{cases_order, false_from_ne_true, ltb-true, or_right, or_left}
use Rattle.std.proofs.lemmas.Option.{same_Some}
use Rattle.base.specs.Laws.{CoverLaws}
use Rattle.base.specs.Sets.{Has, IsRising, member, minus, union, roots, is_root}
use Rattle.base.proofs.Roots.{filter-iff}
use Rattle.base.proofs.Sets.{ext, has-set_of, rising-set_of, has-union, rising-union, minus-iff, rising-minus, member-iff, get-has, map-has, has-map, has-get}
use Rattle.base_bits.specs.Words.{passing}
use Rattle.base_bits.specs.Rows.{Numbers, is_in}
use Rattle.base_bits.proofs.Passing.{nat_laws, has-passing, passing-has, rising-passing}
use Rattle.base_order.specs.Order.{covers_at, picked}
use Rattle.base_order.proofs.SettledRoots.{in-has, has-in}
use Rattle.base_order.proofs.Picked.{rising-at, filter-picked, roots-picked}
use Rattle.server_stock.specs.Held.{row_at, with, without, needs, needed as needed_numbers, elsewhere, wanted, wanted_numbers}
use Rattle.server_stock.specs.declared.sides.Side.{Side}
use Rattle.server_stock.specs.Sides.{announced_of, offered_at, turned, sent_numbers, announced_from, IsSide}
use Rattle.server_stock.specs.Stock.{Holding, held_from, held_elsewhere, needed, sent, pairs_of, IsAnnounced}
use Rattle.server_stock.proofs.Turns.{get-some, get-within, announced-turned}
use Rattle.std.specs.Cmp.{both_ways}

-- lists
module _ {A : Type 0} where
  has-left : (xs ys : List A) (x : A) → Has x xs → Has x (xs ++ ys)
  has-left [] ys x h = absurd h
  has-left (z ∷ xs) ys x (inl q) = inl q
  has-left (z ∷ xs) ys x (inr h) = inr (has-left xs ys x h)

  has-right : (xs ys : List A) (x : A) → Has x ys → Has x (xs ++ ys)
  has-right [] ys x h = h
  has-right (z ∷ xs) ys x h = inr (has-right xs ys x h)

  append-has : (xs ys : List A) (x : A) → Has x (xs ++ ys) → Has x xs ⊎ Has x ys
  append-has [] ys x h = inr h
  append-has (z ∷ xs) ys x (inl q) = inl (inl q)
  append-has (z ∷ xs) ys x (inr h) = elim (append-has xs ys x h) [ inl m ↦ inl (inr m) | inr m ↦ inr m ]

module _ (t : Numbers → Bool) where
  any-at : (xs : List Numbers) → list_any t xs ≡ true → (q : ℕ) × (t (row_at xs q) ≡ true)
  any-at [] e = absurd cc
  any-at (x ∷ xs) e = go (t x) refl (any-at xs)
    where
      go : (b : Bool) → t x ≡ b → (list_any t xs ≡ true → (q : ℕ) × (t (row_at xs q) ≡ true)) → (q : ℕ) × (t (row_at (x ∷ xs) q) ≡ true)
      go true w f = (0, w)
      go false w f = let r = f (subst (λ b. (b || list_any t xs) ≡ true) w e) in (suc r.0, r.1)

  elsewhere-at : (xs : List Numbers) (p : ℕ) → elsewhere t p xs ≡ true → (q : ℕ) × (q ≢ p) × (t (row_at xs q) ≡ true)
  elsewhere-at [] p e = absurd cc
  elsewhere-at (x ∷ xs) zero e = let r = any-at xs e in (suc r.0, (λ q. absurd (omega (arith, q))), r.1)
  elsewhere-at (x ∷ xs) (suc p) e = go (t x) refl (elsewhere-at xs p)
    where
      go : (b : Bool) → t x ≡ b → (elsewhere t p xs ≡ true → (q : ℕ) × (q ≢ p) × (t (row_at xs q) ≡ true)) → (q : ℕ) × (q ≢ suc p) × (t (row_at (x ∷ xs) q) ≡ true)
      go true w f = (0, (λ q. absurd (omega (arith, q))), w)
      go false w f = let r = f (subst (λ b. (b || elsewhere t p xs) ≡ true) w e) in (suc r.0, (λ q. r.1 (omega (arith, q))), r.2)

at-any : (k : ℕ) (xs : List Numbers) (q : ℕ) → is_in k (row_at xs q).members ≡ true → list_any (λ r. is_in k r.members) xs ≡ true
at-any k [] q e = absurd cc
at-any k (x ∷ xs) zero e = or_left (is_in k x.members) (list_any (λ r. is_in k r.members) xs) e
at-any k (x ∷ xs) (suc q) e = or_right (is_in k x.members) (list_any (λ r. is_in k r.members) xs) (at-any k xs q e)

at-elsewhere : (k : ℕ) (xs : List Numbers) (p q : ℕ) → q ≢ p → is_in k (row_at xs q).members ≡ true → elsewhere (λ r. is_in k r.members) p xs ≡ true
at-elsewhere k [] p q n e = absurd cc
at-elsewhere k (x ∷ xs) zero zero n e = absurd (n refl)
at-elsewhere k (x ∷ xs) zero (suc q) n e = at-any k xs q e
at-elsewhere k (x ∷ xs) (suc p) zero n e = or_left (is_in k x.members) (elsewhere (λ r. is_in k r.members) p xs) e
at-elsewhere k (x ∷ xs) (suc p) (suc q) n e = or_right (is_in k x.members) (elsewhere (λ r. is_in k r.members) p xs) (at-elsewhere k xs p q (λ w. n (ap suc w)) e)

needs-at : (rows : List Numbers) (p k : ℕ) → needs rows p k ≡ true → (q : ℕ) × (q ≢ p) × Has k (row_at rows q).members
unfolding needs
needs-at rows p k e = let r = elsewhere-at (λ r. is_in k r.members) rows p e in (r.0, r.1, in-has k (row_at rows r.0).members r.2)

at-needs : (rows : List Numbers) (p k q : ℕ) → q ≢ p → Has k (row_at rows q).members → needs rows p k ≡ true
unfolding needs
at-needs rows p k q n h = at-elsewhere k rows p q n (has-in k (row_at rows q).members h)

row-within : (rows : List Numbers) (q k : ℕ) → Has k (row_at rows q).members → q < length rows
row-within [] q k h = absurd h
row-within (r ∷ rs) zero k h = omega arith
row-within (r ∷ rs) (suc q) k h = let l = row-within rs q k h in omega (arith, l)

filter-push : (g : ℕ → Bool) (xs : List ℕ) (x : ℕ) → filter g (xs ++ x ∷ []) ≡ cond (g x) (filter g xs ++ x ∷ []) (filter g xs)
filter-push g [] x = refl
filter-push g (y ∷ ys) x = go (g x) refl (g y) refl (filter-push g ys x)
  where
    go : (b : Bool) → g x ≡ b → (c : Bool) → g y ≡ c → filter g (ys ++ x ∷ []) ≡ cond (g x) (filter g ys ++ x ∷ []) (filter g ys)
        → filter g ((y ∷ ys) ++ x ∷ []) ≡ cond (g x) (filter g (y ∷ ys) ++ x ∷ []) (filter g (y ∷ ys))
    go true e true q p = rw (q, e) (ap (λ zs. y ∷ zs) (rw e at p))
    go true e false q p = rw (q, e) (rw e at p)
    go false e true q p = rw (q, e) (ap (λ zs. y ∷ zs) (rw e at p))
    go false e false q p = rw (q, e) (rw e at p)

-- the numbers that pass two tests
passing-both : (f g : ℕ → Bool) (n : ℕ) → passing (λ k. f k && g k) n ≡ filter g (passing f n)
passing-both f g zero = refl
passing-both f g (suc n) = go (f n) (g n) refl refl (passing-both f g n) (filter-push g (passing f n) n)
  where
    go : (a b : Bool) → f n ≡ a → g n ≡ b → passing (λ k. f k && g k) n ≡ filter g (passing f n)
        → filter g (passing f n ++ n ∷ []) ≡ cond (g n) (filter g (passing f n) ++ n ∷ []) (filter g (passing f n)) → passing (λ k. f k && g k) (suc n) ≡ filter g (passing f (suc n))
    go true true e q ih p = rw (e, q) (ap (λ zs. zs ++ n ∷ []) ih ∙ sym (rw q at p))
    go true false e q ih p = rw (e, q) (ih ∙ sym (rw q at p))
    go false b e q ih p = rw e ih

-- interfaces that rise are distinct
pub one-place : (is : List ℕ) → IsRising nat_lt is → (p q i : ℕ) → slice_get is p ≡ Some i → slice_get is q ≡ Some i → p ≡ q
one-place is r p q i e f = elim (cases_order p q) [
  | inl w ↦ w
  | inr (inl l) ↦ absurd (grind (arith, nat_laws.irreflexive i, rising-at nat_laws is r p q i i l e f))
  | inr (inr l) ↦ absurd (grind (arith, nat_laws.irreflexive i, rising-at nat_laws is r q p i i l f e))
]

module _ {T : Type 0} (items : List T) where
  pub picked-has : (ns : List ℕ) (x : T) → Has x (picked items ns) → (k : ℕ) × Has k ns × (slice_get items k ≡ Some x)
  picked-has [] x h = absurd h
  picked-has (n ∷ ns) x h = go (slice_get items n) refl (picked-has ns x) h
    where
      go : (o : Option T) → slice_get items n ≡ o → (Has x (picked items ns) → (k : ℕ) × Has k ns × (slice_get items k ≡ Some x)) → Has x (picked items (n ∷ ns))
          → (k : ℕ) × Has k (n ∷ ns) × (slice_get items k ≡ Some x)
      go None e f h = let r = f (rw e at h) in (r.0, inr r.1, r.2)
      go (Some y) e f h = more (rw e at h)
        where
          more : Has x (y ∷ picked items ns) → (k : ℕ) × Has k (n ∷ ns) × (slice_get items k ≡ Some x)
          more (inl q) = (n, inl refl, e ∙ ap Some (sym q))
          more (inr m) = let r = f m in (r.0, inr r.1, r.2)

  pub has-picked : (ns : List ℕ) (k : ℕ) (x : T) → Has k ns → slice_get items k ≡ Some x → Has x (picked items ns)
  has-picked [] k x h e = absurd h
  has-picked (n ∷ ns) k x (inl q) e = let w : slice_get items n ≡ Some x = ap (slice_get items) (sym q) ∙ e in rw w (inl refl)
  has-picked (n ∷ ns) k x (inr m) e = go (slice_get items n) refl (has-picked ns k x m e)
    where
      go : (o : Option T) → slice_get items n ≡ o → Has x (picked items ns) → Has x (picked items (n ∷ ns))
      go None w h = rw w h
      go (Some y) w h = rw w (inr h)

  pub pairs-at : (is : List ℕ) (rows : List Numbers) (h : Holding T) → Has h (pairs_of items is rows)
      → (q : ℕ) × (slice_get is q ≡ Some h.interface) × Has h.item (picked items (row_at rows q).members)
  pairs-at [] rows h m = absurd m
  pairs-at (i ∷ is) [] h m = absurd m
  pairs-at (i ∷ is) (r ∷ rs) h m = elim (append-has (map (λ x. record { interface = i; item = x }) (picked items r.members)) (pairs_of items is rs) h m) [
    | inl a ↦
        let w = has-map (λ x. record { interface = i; item = x }) (picked items r.members) h a in
        (0, ap Some (sym (ap (λ (z : Holding T). z.interface) w.2)), subst (λ z. Has z (picked items r.members)) (sym (ap (λ (z : Holding T). z.item) w.2)) w.1)
    | inr b ↦ let w = pairs-at is rs h b in (suc w.0, w.1, w.2)
  ]

  pub at-pairs : (is : List ℕ) (rows : List Numbers) (q i : ℕ) (x : T) → slice_get is q ≡ Some i → Has x (picked items (row_at rows q).members)
      → Has (record { interface = i; item = x }) (pairs_of items is rows)
  at-pairs [] rows q i x e h = absurd cc
  at-pairs (j ∷ is) [] q i x e h = absurd h
  at-pairs (j ∷ is) (r ∷ rs) zero i x e h =
      subst (λ z. Has (record { interface = z; item = x }) (pairs_of items (j ∷ is) (r ∷ rs))) (same_Some j i e)
      (has-left (map (λ x. record { interface = j; item = x }) (picked items r.members)) (pairs_of items is rs) (record { interface = j; item = x })
      (map-has (λ x. record { interface = j; item = x }) (picked items r.members) x h))
  at-pairs (j ∷ is) (r ∷ rs) (suc q) i x e h =
      has-right (map (λ x. record { interface = j; item = x }) (picked items r.members)) (pairs_of items is rs) (record { interface = i; item = x })
      (at-pairs is rs q i x e h)

  pub no-pairs : (is : List ℕ) (n w : ℕ) → pairs_of items is (replicate n (record { width = w; members = [] })) ≡ []
  no-pairs [] n w = refl
  no-pairs (i ∷ is) zero w = refl
  no-pairs (i ∷ is) (suc n) w = no-pairs is n w

module _ {T : Type 0} {covers before : T → T → Bool} (laws : CoverLaws covers before) where
  pub from-iff : (i : ℕ) (hs : List (Holding T)) (x : T) → Has x (held_from before i hs) ↔ Has (record { interface = i; item = x }) hs
  from-iff i hs x = (to, from)
    where
      test : Holding T → Bool
      test h = h.interface == i

      to : Has x (held_from before i hs) → Has (record { interface = i; item = x }) hs
      to h =
          let r = has-map (λ (h : Holding T). h.item) (filter (λ h. h.interface == i) hs) x ((has-set_of laws x (map (λ h. h.item) (filter (λ h. h.interface == i) hs))).0 h) in
          let f = (filter-iff (λ (h : Holding T). h.interface == i) r.0 hs).0 r.1 in
          subst (λ z. Has z hs) (ap₂ (λ (a : ℕ) (b : T). record { interface = a; item = b }) (eqb-true r.0.interface i f.1) (sym r.2)) f.0

      from : Has (record { interface = i; item = x }) hs → Has x (held_from before i hs)
      from h = (has-set_of laws x (map (λ h. h.item) (filter (λ h. h.interface == i) hs))).1
          (map-has (λ (h : Holding T). h.item) (filter (λ h. h.interface == i) hs) (record { interface = i; item = x })
          ((filter-iff (λ (h : Holding T). h.interface == i) (record { interface = i; item = x }) hs).1 (h, eq-eqb i i refl)))

  pub elsewhere-iff : (i : ℕ) (hs : List (Holding T)) (x : T) → Has x (held_elsewhere before i hs) ↔ ((j : ℕ) × (j ≢ i) × Has (record { interface = j; item = x }) hs)
  elsewhere-iff i hs x = (to, from)
    where
      to : Has x (held_elsewhere before i hs) → (j : ℕ) × (j ≢ i) × Has (record { interface = j; item = x }) hs
      to h =
          let r = has-map (λ (h : Holding T). h.item) (filter (λ h. not (h.interface == i)) hs) x ((has-set_of laws x (map (λ h. h.item) (filter (λ h. not (h.interface == i)) hs))).0 h) in
          let f = (filter-iff (λ (h : Holding T). not (h.interface == i)) r.0 hs).0 r.1 in
          (r.0.interface, (λ q. absurd (grind (arith, f.1, eq-eqb r.0.interface i q))), subst (λ z. Has (record { interface = r.0.interface; item = z }) hs) (sym r.2) f.0)

      from : ((j : ℕ) × (j ≢ i) × Has (record { interface = j; item = x }) hs) → Has x (held_elsewhere before i hs)
      from w = (has-set_of laws x (map (λ h. h.item) (filter (λ h. not (h.interface == i)) hs))).1
          (map-has (λ (h : Holding T). h.item) (filter (λ h. not (h.interface == i)) hs) (record { interface = w.0; item = x })
          ((filter-iff (λ (h : Holding T). not (h.interface == i)) (record { interface = w.0; item = x }) hs).1
          (w.2, ap not (false_from_ne_true (w.0 == i) (λ e. w.1 (eqb-true w.0 i e))))))

  rising-from : (i : ℕ) (hs : List (Holding T)) → IsRising before (held_from before i hs)
  rising-from i hs = rising-set_of laws (map (λ h. h.item) (filter (λ h. h.interface == i) hs))

  rising-elsewhere : (i : ℕ) (hs : List (Holding T)) → IsRising before (held_elsewhere before i hs)
  rising-elsewhere i hs = rising-set_of laws (map (λ h. h.item) (filter (λ h. not (h.interface == i)) hs))

  module _ (items : List T) (rising : IsRising before items) where
    pub one-number : (i j : ℕ) (x : T) → slice_get items i ≡ Some x → slice_get items j ≡ Some x → i ≡ j
    one-number i j x e f = elim (cases_order i j) [
      | inl w ↦ w
      | inr (inl l) ↦ absurd (grind (arith, laws.irreflexive x, rising-at laws items rising i j x x l e f))
      | inr (inr l) ↦ absurd (grind (arith, laws.irreflexive x, rising-at laws items rising j i x x l f e))
    ]

    picked-one : (ns : List ℕ) (k : ℕ) (x : T) → slice_get items k ≡ Some x → Has x (picked items ns) → Has k ns
    picked-one ns k x e h = let r = picked-has items ns x h in subst (λ z. Has z ns) (one-number r.0 k x r.2 e) r.1

    pub picked-rising : (ns : List ℕ) → IsRising nat_lt ns → IsRising before (picked items ns)
    picked-rising [] r = tt
    picked-rising (n ∷ ns) r = go (slice_get items n) refl (picked-rising ns r.1)
      where
        go : (o : Option T) → slice_get items n ≡ o → IsRising before (picked items ns) → IsRising before (picked items (n ∷ ns))
        go None e ih = rw e ih
        go (Some y) e ih = rw e (first, ih)
          where
            first : (z : T) → Has z (picked items ns) → before y z ≡ true
            first z h = let w = picked-has items ns z h in rising-at laws items rising n w.0 y z (ltb-true n w.0 (r.0 w.0 w.1)) e w.2

    pub minus-picked : (a b : List ℕ) → ((i : ℕ) → Has i a → i < length items) → picked items (minus nat_lt a b) ≡ minus before (picked items a) (picked items b)
    minus-picked a b l = filter-picked laws items (λ k. not (is_in k b)) (λ x. not (member before x (picked items b))) a l
        (λ k x e. ap not (both_ways (is_in k b) (member before x (picked items b))
        (λ m. (member-iff laws x (picked items b)).1 (has-picked items b k x (in-has k b m) e))
        (λ m. has-in k b (picked-one b k x e ((member-iff laws x (picked items b)).0 m)))))

    module _ (is : List ℕ) (distinct : IsRising nat_lt is) where
      -- what is held from the interface at a place is what its row represents
      pub from-at : (rows : List Numbers) (q i : ℕ) (x : T) → slice_get is q ≡ Some i → Has x (held_from before i (pairs_of items is rows)) → Has x (picked items (row_at rows q).members)
      from-at rows q i x e h =
          let r = pairs-at items is rows (record { interface = i; item = x }) ((from-iff i (pairs_of items is rows) x).0 h) in
          subst (λ z. Has x (picked items (row_at rows z).members)) (one-place is distinct r.0 q i r.1 e) r.2

      pub at-from : (rows : List Numbers) (q i : ℕ) (x : T) → slice_get is q ≡ Some i → Has x (picked items (row_at rows q).members) → Has x (held_from before i (pairs_of items is rows))
      at-from rows q i x e h = (from-iff i (pairs_of items is rows) x).1 (at-pairs items is rows q i x e h)

      pub held-shown : (rows : List Numbers) (q i : ℕ) → slice_get is q ≡ Some i → IsRising nat_lt (row_at rows q).members → picked items (row_at rows q).members ≡ held_from before i (pairs_of items is rows)
      held-shown rows q i e r = ext laws (picked items (row_at rows q).members) (held_from before i (pairs_of items is rows)) (picked-rising (row_at rows q).members r)
          (rising-from i (pairs_of items is rows)) (λ x h. at-from rows q i x e h) (λ x h. from-at rows q i x e h)

      module _ (rows : List Numbers) (p i : ℕ) (e : slice_get is p ≡ Some i) where
        pub elsewhere-shown : length is ≡ length rows → held_elsewhere before i (pairs_of items is rows) ≡ picked items (needed_numbers (length items) rows p)
        elsewhere-shown long = ext laws (held_elsewhere before i (pairs_of items is rows)) (picked items (needed_numbers (length items) rows p)) (rising-elsewhere i (pairs_of items is rows))
            (picked-rising (needed_numbers (length items) rows p) (rising-passing (needs rows p) (length items))) to from
          where
            to : (x : T) → Has x (held_elsewhere before i (pairs_of items is rows)) → Has x (picked items (needed_numbers (length items) rows p))
            to x h =
                let a = (elsewhere-iff i (pairs_of items is rows) x).0 h in
                let b = pairs-at items is rows (record { interface = a.0; item = x }) a.2 in
                let k = picked-has items (row_at rows b.0).members x b.2 in
                let n : b.0 ≢ p = λ w. a.1 (same_Some a.0 i (sym b.1 ∙ (ap (slice_get is) w ∙ e))) in
                has-picked items (needed_numbers (length items) rows p) k.0 x (passing-has (needs rows p) (length items) k.0 (get-within items k.0 x k.2) (at-needs rows p k.0 b.0 n k.1)) k.2

            from : (x : T) → Has x (picked items (needed_numbers (length items) rows p)) → Has x (held_elsewhere before i (pairs_of items is rows))
            from x h =
                let k = picked-has items (needed_numbers (length items) rows p) x h in
                let a = needs-at rows p k.0 (has-passing (needs rows p) (length items) k.0 k.1).1 in
                let w = row-within rows a.0 k.0 a.2 in
                let j = get-some is a.0 (omega (arith, w, long)) in
                (elsewhere-iff i (pairs_of items is rows) x).1 (
                  j.0,
                  (λ q. a.1 (one-place is distinct a.0 p i (j.1 ∙ ap Some q) e)),
                  at-pairs items is rows a.0 j.0 x j.1 (has-picked items (row_at rows a.0).members k.0 x a.2 k.2),
                )

        needed-within : (k : ℕ) → Has k (needed_numbers (length items) rows p) → k < length items
        needed-within k h = (has-passing (needs rows p) (length items) k h).0

        wanted-within : (offered : List ℕ) (k : ℕ) → Has k (wanted_numbers (length items) offered rows p) → k < length items
        wanted-within offered k h = (has-passing (wanted offered rows p) (length items) k h).0

        pub sent-within : (offered : List ℕ) (k : ℕ) → Has k (sent_numbers covers items offered rows p) → k < length items
        sent-within offered k h = wanted-within offered k ((filter-iff (is_root (covers_at covers items) nat_lt (wanted_numbers (length items) offered rows p)) k (wanted_numbers (length items) offered rows p)).0 h).0

        -- an item is offered where its number is
        offered-at : (offered : List ℕ) (k : ℕ) (x : T) → slice_get items k ≡ Some x → is_in k offered ≡ member before x (picked items offered)
        offered-at offered k x f = both_ways (is_in k offered) (member before x (picked items offered))
            (λ m. (member-iff laws x (picked items offered)).1 (has-picked items offered k x (in-has k offered m) f))
            (λ m. has-in k offered (picked-one offered k x f ((member-iff laws x (picked items offered)).0 m)))

        pub needed-shown : (offered : List ℕ) → length is ≡ length rows
            → picked items (wanted_numbers (length items) offered rows p) ≡ needed before (picked items offered) i (pairs_of items is rows)
        needed-shown offered long =
            ap (picked items) (passing-both (needs rows p) (λ k. is_in k offered) (length items))
            ∙ (filter-picked laws items (λ k. is_in k offered) (λ x. member before x (picked items offered)) (needed_numbers (length items) rows p) needed-within (offered-at offered)
            ∙ ap (filter (λ x. member before x (picked items offered))) (sym (elsewhere-shown long)))

        pub sent-shown : (offered : List ℕ) → length is ≡ length rows
            → picked items (sent_numbers covers items offered rows p) ≡ sent covers before (picked items offered) i (pairs_of items is rows)
        sent-shown offered long =
            roots-picked laws items rising (wanted_numbers (length items) offered rows p) (wanted-within offered) ∙ ap (roots covers before) (needed-shown offered long)

      -- what is announced represents what changed
      pub announced-shown : (old new : List Numbers) (offered then : List ℕ) (p i : ℕ) → slice_get is p ≡ Some i → length is ≡ length old → length is ≡ length new
          → IsAnnounced before items (sent covers before (picked items offered) i (pairs_of items is old)) (sent covers before (picked items then) i (pairs_of items is new))
          (announced_from (sent_numbers covers items offered old p) (sent_numbers covers items then new p))
      announced-shown old new offered then p i e l m =
          record {
            withdrawn = minus-picked (sent_numbers covers items offered old p) (sent_numbers covers items then new p) (sent-within old p i e offered)
                ∙ ap₂ (minus before) (sent-shown old p i e offered l) (sent-shown new p i e then m);
            added = minus-picked (sent_numbers covers items then new p) (sent_numbers covers items offered old p) (sent-within new p i e then)
                ∙ ap₂ (minus before) (sent-shown new p i e then m) (sent-shown old p i e offered l);
          }

      -- what a link announces as it turns represents what changed
      pub turned-shown : (old new : List Numbers) (then : Numbers) (p i : ℕ) (s : Side) → slice_get is p ≡ Some i → length is ≡ length old → length is ≡ length new → IsSide covers items old p s
          → IsAnnounced before items (sent covers before (offered_at items s) i (pairs_of items is old)) (sent covers before (picked items then.members) i (pairs_of items is new))
          (announced_of (turned covers items then new p s))
      turned-shown old new then p i s e l m side =
          subst (IsAnnounced before items (sent covers before (offered_at items s) i (pairs_of items is old)) (sent covers before (picked items then.members) i (pairs_of items is new)))
          (sym (announced-turned covers items old p s then new side)) (announced-shown old new s.offered.members then.members p i e l m)

      module _ (rows : List Numbers) (p i : ℕ) (e : slice_get is p ≡ Some i) (there : p < length rows) (out add : List ℕ) where
        now : List Numbers
        now = set rows p (with (without (row_at rows p) out) add)

        at-now : row_at now p ≡ with (without (row_at rows p) out) add
        unfolding now
        at-now = get_or-set_same rows p (with (without (row_at rows p) out) add) (record { width = 0; members = [] }) there

        -- what the interface holds after a change
        pub held-changed : held_from before i (pairs_of items is (set rows p (with (without (row_at rows p) out) add)))
            ≡ union before (picked items add) (minus before (held_from before i (pairs_of items is rows)) (picked items out))
        unfolding now
        held-changed = ext laws (held_from before i (pairs_of items is now)) (union before (picked items add) (minus before (held_from before i (pairs_of items is rows)) (picked items out)))
            (rising-from i (pairs_of items is now)) (rising-union laws (picked items add) (minus before (held_from before i (pairs_of items is rows)) (picked items out))
            (rising-minus laws (held_from before i (pairs_of items is rows)) (picked items out) (rising-from i (pairs_of items is rows)))) to from
          where
            to : (x : T) → Has x (held_from before i (pairs_of items is now)) → Has x (union before (picked items add) (minus before (held_from before i (pairs_of items is rows)) (picked items out)))
            to x h =
                let a = subst (λ (z : Numbers). Has x (picked items z.members)) at-now (from-at now p i x e h) in
                let k = picked-has items (union nat_lt add (minus nat_lt (row_at rows p).members out)) x a in
                (has-union laws x (picked items add) (minus before (held_from before i (pairs_of items is rows)) (picked items out))).1
                (elim ((has-union nat_laws k.0 add (minus nat_lt (row_at rows p).members out)).0 k.1) [
                  | inl m ↦ inl (has-picked items add k.0 x m k.2)
                  | inr m ↦
                      let b = (minus-iff nat_laws k.0 (row_at rows p).members out).0 m in
                      inr ((minus-iff laws x (held_from before i (pairs_of items is rows)) (picked items out)).1
                      (at-from rows p i x e (has-picked items (row_at rows p).members k.0 x b.0 k.2), λ o. b.1 (picked-one out k.0 x k.2 o)))
                ])

            from : (x : T) → Has x (union before (picked items add) (minus before (held_from before i (pairs_of items is rows)) (picked items out))) → Has x (held_from before i (pairs_of items is now))
            from x h = at-from now p i x e (subst (λ (z : Numbers). Has x (picked items z.members)) (sym at-now)
                (elim ((has-union laws x (picked items add) (minus before (held_from before i (pairs_of items is rows)) (picked items out))).0 h) [
                  | inl m ↦
                      let k = picked-has items add x m in
                      has-picked items (union nat_lt add (minus nat_lt (row_at rows p).members out)) k.0 x ((has-union nat_laws k.0 add (minus nat_lt (row_at rows p).members out)).1 (inl k.1)) k.2
                  | inr m ↦
                      let b = (minus-iff laws x (held_from before i (pairs_of items is rows)) (picked items out)).0 m in
                      let k = picked-has items (row_at rows p).members x (from-at rows p i x e b.0) in
                      has-picked items (union nat_lt add (minus nat_lt (row_at rows p).members out)) k.0 x ((has-union nat_laws k.0 add (minus nat_lt (row_at rows p).members out)).1
                      (inr ((minus-iff nat_laws k.0 (row_at rows p).members out).1 (k.1, λ o. b.1 (has-picked items out k.0 x o k.2))))) k.2
                ]))

        -- what the others hold stays
        pub others-kept : (j : ℕ) → j ≢ i → held_from before j (pairs_of items is (set rows p (with (without (row_at rows p) out) add))) ≡ held_from before j (pairs_of items is rows)
        unfolding now
        others-kept j n = ext laws (held_from before j (pairs_of items is now)) (held_from before j (pairs_of items is rows)) (rising-from j (pairs_of items is now)) (rising-from j (pairs_of items is rows)) to from
          where
            apart : (q : ℕ) → slice_get is q ≡ Some j → row_at now q ≡ row_at rows q
            apart q f = get_or-set_other rows p q (with (without (row_at rows p) out) add) (record { width = 0; members = [] }) (λ w. n (same_Some j i (sym f ∙ (ap (slice_get is) w ∙ e))))

            to : (x : T) → Has x (held_from before j (pairs_of items is now)) → Has x (held_from before j (pairs_of items is rows))
            to x h =
                let a = pairs-at items is now (record { interface = j; item = x }) ((from-iff j (pairs_of items is now) x).0 h) in
                at-from rows a.0 j x a.1 (subst (λ (z : Numbers). Has x (picked items z.members)) (apart a.0 a.1) a.2)

            from : (x : T) → Has x (held_from before j (pairs_of items is rows)) → Has x (held_from before j (pairs_of items is now))
            from x h =
                let a = pairs-at items is rows (record { interface = j; item = x }) ((from-iff j (pairs_of items is rows) x).0 h) in
                at-from now a.0 j x a.1 (subst (λ (z : Numbers). Has x (picked items z.members)) (sym (apart a.0 a.1)) a.2)

pub holds-nothing : {T : Type 0} (n w : ℕ) (items : List T) (is : List ℕ) (rows : List Numbers) → rows ≡ replicate n (record { width = w; members = [] }) → pairs_of items is rows ≡ []
holds-nothing n w items is rows e = ap (pairs_of items is) e ∙ no-pairs items is n w

module _ {T : Type 0} {covers before : T → T → Bool} (laws : CoverLaws covers before) (items : List T) (rising : IsRising before items) (is : List ℕ) (distinct : IsRising nat_lt is) where
  pub holds-shown : (rows : List Numbers) (q i k : ℕ) (x : T) → slice_get is q ≡ Some i → slice_get items k ≡ Some x
      → (is_in k (row_at rows q).members ≡ true) ↔ Has x (held_from before i (pairs_of items is rows))
  holds-shown rows q i k x e f = (
    λ m. at-from laws items rising is distinct rows q i x e (has-picked items (row_at rows q).members k x (in-has k (row_at rows q).members m) f),
    λ h. has-in k (row_at rows q).members (picked-one laws items rising (row_at rows q).members k x f (from-at laws items rising is distinct rows q i x e h)),
  )

  pub holds-none : (rows : List Numbers) (i : ℕ) (x : T) → (Has i is → ⊥) → Has x (held_from before i (pairs_of items is rows)) → ⊥
  holds-none rows i x n h =
      let r = pairs-at items is rows (record { interface = i; item = x }) ((from-iff laws i (pairs_of items is rows) x).0 h) in
      n (get-has is r.0 i r.1)

  -- all numbers pick all items
  pub picked-all : picked items (passing (λ k. true) (length items)) ≡ items
  picked-all = ext laws (picked items (passing (λ k. true) (length items))) items
      (picked-rising laws items rising (passing (λ k. true) (length items)) (rising-passing (λ k. true) (length items))) rising
      (λ x h. let k = picked-has items (passing (λ k. true) (length items)) x h in get-has items k.0 x k.2)
      (λ x h. let k = has-get items x h in has-picked items (passing (λ k. true) (length items)) k.0 x (passing-has (λ k. true) (length items) k.0 (get-within items k.0 x k.1) refl) k.1)

pub map-replicate : {A B : Type 0} (f : A → B) (n : ℕ) (x : A) → map f (replicate n x) ≡ replicate n (f x)
map-replicate f zero x = refl
map-replicate f (suc n) x = ap (λ xs. f x ∷ xs) (map-replicate f n x)
