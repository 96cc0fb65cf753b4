-- The keys of a pool by the order: searching, and that an insert and a removal keep it.
use Rattle.std.proofs.Common.{◌≡◌, ◌≢◌, ◌⊎◌, inl, inr, ℕ, ◌+◌, ◌-◌, ◌<◌, ◌≤◌, Bool, true, false, List, length, Option, Some, None, IsSome, refl, sym, ap, subst, ◌∙◌, arith, slice_set}
use Rattle.std.proofs.lemmas.Bool.{cases_eq}
use Rattle.std.specs.List.{insert, remove}
use Rattle.std.proofs.lemmas.List.Edits.{length-insert, get_or-insert_below, get_or-insert_at, get_or-insert_above, length-remove, get_or-remove_below, get_or-remove_above}
use Rattle.std.proofs.lemmas.List.{get_or-set_same, get_or-set_other, get_or_past}
use Rattle.base.specs.Laws.{CoverLaws}
use Rattle.base_pool.specs.declared.pool.Counted.{Counted}
use Rattle.base_pool.specs.Pool.{slot, SameElsewhere}
use Rattle.base_pool.specs.Sorted.{place_of, IsIndex, IsGap}

pub trichotomy : (a b : ℕ) → (a < b) ⊎ ((a ≡ b) ⊎ (b < a))
trichotomy a b = elim (cases_eq a b) [ inl e ↦ inr (inl e) | inr n ↦ grind (arith, n) ]

pub some-is : {X : Type 0} (o : Option X) → IsSome o → (x : X) × (o ≡ Some x)
some-is None h = absurd cc
some-is (Some x) h = (x, refl)

pub is-some : {X : Type 0} (o : Option X) (x : X) → o ≡ Some x → IsSome o
is-some o x e = rw e refl

no-some : (X : Type 0) → IsSome {T = X} None → ⊥
no-some X h = cc

module _ {T : Type 0} (covers before : T → T → Bool) (laws : CoverLaws covers before) (slots : List (Option (Counted T))) (sorted : List ℕ) (ix : IsIndex before slots sorted) where
  -- the item at a place that nothing holds back is not live
  pub absent : (item : T) (i : ℕ) → ((k : ℕ) (x : Counted T) → k < i → slot slots (place_of sorted k) ≡ Some x → before x.item item ≡ true)
      → ((k : ℕ) (x : Counted T) → i ≤ k → k < length sorted → slot slots (place_of sorted k) ≡ Some x → before item x.item ≡ true)
      → (key : ℕ) (c : Counted T) → slot slots key ≡ Some c → c.item ≢ item
  absent item i below above key c e q =
      let at = ix.listed key (is-some (slot slots key) c e) in
      let there : slot slots (place_of sorted at.0) ≡ Some c = ap (slot slots) at.2 ∙ e in
      go at.0 at.1 there (trichotomy at.0 i)
    where
      go : (k : ℕ) → k < length sorted → slot slots (place_of sorted k) ≡ Some c → (k < i) ⊎ ((k ≡ i) ⊎ (i < k)) → ⊥
      go k w f (inl s) = grind (arith, subst (λ z. before z item ≡ true) q (below k c s f), laws.irreflexive item)
      go k w f (inr (inl s)) = grind (arith, subst (λ z. before item z ≡ true) q (above k c (omega arith) w f), laws.irreflexive item)
      go k w f (inr (inr s)) = grind (arith, subst (λ z. before item z ≡ true) q (above k c (omega arith) w f), laws.irreflexive item)

  -- all later ones stand behind it
  pub above-strict : (item : T) (i : ℕ) (m : Counted T) → slot slots (place_of sorted i) ≡ Some m → before item m.item ≡ true
      → (k : ℕ) (x : Counted T) → i ≤ k → k < length sorted → slot slots (place_of sorted k) ≡ Some x → before item x.item ≡ true
  above-strict item i m e b k x l w f = go (trichotomy k i)
    where
      go : (k < i) ⊎ ((k ≡ i) ⊎ (i < k)) → before item x.item ≡ true
      go (inl s) = absurd (omega arith)
      go (inr (inl q)) =
          let two : Some x ≡ Some m = sym f ∙ (ap (λ z. slot slots (place_of sorted z)) q ∙ e) in
          let one : x ≡ m = cc in
          subst (λ z. before item z.item ≡ true) (sym one) b
      go (inr (inr s)) = laws.chain item m.item x.item b (ix.rising i k m x s w e f)

  -- no equal item is live
  pub gap : (item : T) (i : ℕ) → i ≤ length sorted → ((k : ℕ) (x : Counted T) → k < i → slot slots (place_of sorted k) ≡ Some x → before x.item item ≡ true)
      → ((k : ℕ) (x : Counted T) → i ≤ k → k < length sorted → slot slots (place_of sorted k) ≡ Some x → before item x.item ≡ true) → IsGap before slots sorted item i
  gap item i w below above = record { within = w; below = below; above = above; absent = absent item i below above }

  pub gap-end : (item : T) (i : ℕ) → i ≤ length sorted → length sorted ≤ i → ((k : ℕ) (x : Counted T) → k < i → slot slots (place_of sorted k) ≡ Some x → before x.item item ≡ true) → IsGap before slots sorted item i
  gap-end item i w past below = gap item i w below (λ k x a b e. absurd (omega arith))

  pub gap-inner : (item : T) (i : ℕ) (m : Counted T) → i ≤ length sorted → ((k : ℕ) (x : Counted T) → k < i → slot slots (place_of sorted k) ≡ Some x → before x.item item ≡ true)
      → slot slots (place_of sorted i) ≡ Some m → before item m.item ≡ true → IsGap before slots sorted item i
  gap-inner item i m w below e b = gap item i w below (above-strict item i m e b)

  pub here : (item : T) (i : ℕ) (m : Counted T) → slot slots (place_of sorted i) ≡ Some m → before m.item item ≡ false → before item m.item ≡ false
      → (n : ℕ) × (slot slots (place_of sorted i) ≡ Some (record { item = item; count = n }))
  here item i m e a b = (m.count, subst (λ z. slot slots (place_of sorted i) ≡ Some (record { item = z; count = m.count })) (laws.total m.item item a b) e)

  -- one item has one place
  pub one-place : (key i n : ℕ) (c : Counted T) → slot slots key ≡ Some c → i < length sorted → slot slots (place_of sorted i) ≡ Some (record { item = c.item; count = n }) → place_of sorted i ≡ key
  one-place key i n c e w f =
      let at = ix.listed key (is-some (slot slots key) c e) in
      go at.0 at.1 at.2 (ap (slot slots) at.2 ∙ e) (trichotomy at.0 i)
    where
      go : (k : ℕ) → k < length sorted → place_of sorted k ≡ key → slot slots (place_of sorted k) ≡ Some c → (k < i) ⊎ ((k ≡ i) ⊎ (i < k)) → place_of sorted i ≡ key
      go k l q there (inl s) = absurd (grind (arith, ix.rising k i c (record { item = c.item; count = n }) s w there f, laws.irreflexive c.item))
      go k l q there (inr (inl s)) = ap (place_of sorted) (sym s) ∙ q
      go k l q there (inr (inr s)) = absurd (grind (arith, ix.rising i k (record { item = c.item; count = n }) c s l f there, laws.irreflexive c.item))

pub inserted : (sorted : List ℕ) (i key k : ℕ) → i ≤ length sorted → k < length sorted + 1
    → ((k < i) × (place_of (insert sorted i key) k ≡ place_of sorted k)) ⊎ (((k ≡ i) × (place_of (insert sorted i key) k ≡ key)) ⊎ ((j : ℕ) × (k ≡ j + 1) × (i ≤ j) × (j < length sorted) × (place_of (insert sorted i key) k ≡ place_of sorted j)))
inserted sorted i key k w l = go (trichotomy k i)
  where
    go : (k < i) ⊎ ((k ≡ i) ⊎ (i < k)) → ((k < i) × (place_of (insert sorted i key) k ≡ place_of sorted k)) ⊎ (((k ≡ i) × (place_of (insert sorted i key) k ≡ key)) ⊎ ((j : ℕ) × (k ≡ j + 1) × (i ≤ j) × (j < length sorted) × (place_of (insert sorted i key) k ≡ place_of sorted j)))
    go (inl s) = inl (s, get_or-insert_below sorted i key 0 k s w)
    go (inr (inl q)) = inr (inl (q, subst (λ z. place_of (insert sorted i key) z ≡ key) (sym q) (get_or-insert_at sorted i key 0 w)))
    go (inr (inr s)) =
        let e : k ≡ (k - 1) + 1 = omega arith in
        inr (inr (k - 1, e, omega arith, omega arith, subst (λ z. place_of (insert sorted i key) z ≡ place_of sorted (k - 1)) (sym e) (get_or-insert_above sorted i key 0 (k - 1) (omega arith) w)))

removed : (sorted : List ℕ) (i k : ℕ) → i < length sorted → k + 1 < length sorted
    → (j : ℕ) × (j < length sorted) × (j ≢ i) × (place_of (remove sorted i) k ≡ place_of sorted j) × ((k < i → j ≡ k) × (i ≤ k → j ≡ k + 1))
removed sorted i k w l = go (trichotomy k i)
  where
    up : i ≤ k → (j : ℕ) × (j < length sorted) × (j ≢ i) × (place_of (remove sorted i) k ≡ place_of sorted j) × ((k < i → j ≡ k) × (i ≤ k → j ≡ k + 1))
    up s = (k + 1, l, (λ e. omega arith), get_or-remove_above sorted i 0 k s w, ((λ h. absurd (omega arith)), λ h. refl))

    go : (k < i) ⊎ ((k ≡ i) ⊎ (i < k)) → (j : ℕ) × (j < length sorted) × (j ≢ i) × (place_of (remove sorted i) k ≡ place_of sorted j) × ((k < i → j ≡ k) × (i ≤ k → j ≡ k + 1))
    go (inl s) = (k, omega arith, (λ e. omega arith), get_or-remove_below sorted i 0 k s w, ((λ h. refl), λ h. absurd (omega arith)))
    go (inr (inl q)) = up (omega arith)
    go (inr (inr s)) = up (omega arith)

module _ {T : Type 0} (covers before : T → T → Bool) (laws : CoverLaws covers before) (old new : List (Option (Counted T))) (sorted : List ℕ) (ix : IsIndex before old sorted) (key : ℕ) where
  -- a fresh item goes to its place
  pub index-insert : (item : T) (i : ℕ) → i ≤ length sorted → slot old key ≡ None → slot new key ≡ Some (record { item = item; count = 1 }) → SameElsewhere old new key
      → ((k : ℕ) (x : Counted T) → k < i → slot old (place_of sorted k) ≡ Some x → before x.item item ≡ true)
      → ((k : ℕ) (x : Counted T) → i ≤ k → k < length sorted → slot old (place_of sorted k) ≡ Some x → before item x.item ≡ true)
      → IsIndex before new (insert sorted i key)
  index-insert item i w was now others below above = record { live = live; listed = listed; rising = rising; counted = counted }
    where
      long : length (insert sorted i key) ≡ length sorted + 1
      long = length-insert sorted i key w

      same : (other : ℕ) → IsSome (slot old other) → slot new other ≡ slot old other
      same other h = others other (λ e. no-some (Counted T) (subst IsSome was (subst (λ z. IsSome (slot old z)) e h)))

      at : (j : ℕ) → j < length sorted → slot new (place_of sorted j) ≡ slot old (place_of sorted j)
      at j l = same (place_of sorted j) (ix.live j l)

      live : (k : ℕ) → k < length (insert sorted i key) → IsSome (slot new (place_of (insert sorted i key) k))
      live k l = elim (inserted sorted i key k w (omega (arith, long))) [
        | inl s ↦ subst (λ z. IsSome (slot new z)) (sym s.1) (subst IsSome (sym (at k (omega arith))) (ix.live k (omega arith)))
        | inr (inl s) ↦ subst (λ z. IsSome (slot new z)) (sym s.1) (subst IsSome (sym now) refl)
        | inr (inr s) ↦ subst (λ z. IsSome (slot new z)) (sym s.4) (subst IsSome (sym (at s.0 s.3)) (ix.live s.0 s.3))
      ]

      listed : (other : ℕ) → IsSome (slot new other) → (k : ℕ) × (k < length (insert sorted i key)) × (place_of (insert sorted i key) k ≡ other)
      listed other h = go (cases_eq other key)
        where
          place : (k : ℕ) → k < length sorted → place_of sorted k ≡ other → (k < i) ⊎ (i ≤ k) → (k : ℕ) × (k < length (insert sorted i key)) × (place_of (insert sorted i key) k ≡ other)
          place k l e (inl s) = (k, omega (arith, long), get_or-insert_below sorted i key 0 k s w ∙ e)
          place k l e (inr s) = (k + 1, omega (arith, long), get_or-insert_above sorted i key 0 k s w ∙ e)

          go : (other ≡ key) ⊎ (other ≢ key) → (k : ℕ) × (k < length (insert sorted i key)) × (place_of (insert sorted i key) k ≡ other)
          go (inl e) = (i, omega (arith, long), get_or-insert_at sorted i key 0 w ∙ sym e)
          go (inr n) =
              let r = ix.listed other (subst IsSome (others other n) h) in
              place r.0 r.1 r.2 (elim (trichotomy r.0 i) [ inl s ↦ inl s | inr (inl q) ↦ inr (omega arith) | inr (inr s) ↦ inr (omega arith) ])

      one-is : (k : ℕ) (x : Counted T) → place_of (insert sorted i key) k ≡ key → slot new (place_of (insert sorted i key) k) ≡ Some x → x.item ≡ item
      one-is k x e f =
          let two : Some x ≡ Some (record { item = item; count = 1 }) = sym f ∙ (ap (slot new) e ∙ now) in
          let one : x ≡ record { item = item; count = 1 } = cc in
          ap (λ z. z.item) one

      back : (k j : ℕ) (x : Counted T) → j < length sorted → place_of (insert sorted i key) k ≡ place_of sorted j → slot new (place_of (insert sorted i key) k) ≡ Some x → slot old (place_of sorted j) ≡ Some x
      back k j x l e f = sym (at j l) ∙ (ap (slot new) (sym e) ∙ f)

      rising : (j k : ℕ) (x y : Counted T) → j < k → k < length (insert sorted i key) → slot new (place_of (insert sorted i key) j) ≡ Some x → slot new (place_of (insert sorted i key) k) ≡ Some y → before x.item y.item ≡ true
      rising j k x y l m e f = go (inserted sorted i key j w (omega (arith, long))) (inserted sorted i key k w (omega (arith, long)))
        where
          go : ((j < i) × (place_of (insert sorted i key) j ≡ place_of sorted j)) ⊎ (((j ≡ i) × (place_of (insert sorted i key) j ≡ key)) ⊎ ((h : ℕ) × (j ≡ h + 1) × (i ≤ h) × (h < length sorted) × (place_of (insert sorted i key) j ≡ place_of sorted h)))
              → ((k < i) × (place_of (insert sorted i key) k ≡ place_of sorted k)) ⊎ (((k ≡ i) × (place_of (insert sorted i key) k ≡ key)) ⊎ ((h : ℕ) × (k ≡ h + 1) × (i ≤ h) × (h < length sorted) × (place_of (insert sorted i key) k ≡ place_of sorted h)))
              → before x.item y.item ≡ true
          go (inl a) (inl b) = ix.rising j k x y l (omega arith) (back j j x (omega arith) a.1 e) (back k k y (omega arith) b.1 f)
          go (inl a) (inr (inl b)) = subst (λ z. before x.item z ≡ true) (sym (one-is k y b.1 f)) (below j x a.0 (back j j x (omega arith) a.1 e))
          go (inl a) (inr (inr b)) = ix.rising j b.0 x y (omega arith) b.3 (back j j x (omega arith) a.1 e) (back k b.0 y b.3 b.4 f)
          go (inr (inl a)) (inl b) = absurd (omega arith)
          go (inr (inl a)) (inr (inl b)) = absurd (omega arith)
          go (inr (inl a)) (inr (inr b)) = subst (λ z. before z y.item ≡ true) (sym (one-is j x a.1 e)) (above b.0 y b.2 b.3 (back k b.0 y b.3 b.4 f))
          go (inr (inr a)) (inl b) = absurd (omega arith)
          go (inr (inr a)) (inr (inl b)) = absurd (omega arith)
          go (inr (inr a)) (inr (inr b)) = ix.rising a.0 b.0 x y (omega arith) b.3 (back j a.0 x a.3 a.4 e) (back k b.0 y b.3 b.4 f)

      counted : (other : ℕ) (c : Counted T) → slot new other ≡ Some c → 0 < c.count
      counted other c e = elim (cases_eq other key) [
        | inl q ↦
            let two : Some c ≡ Some (record { item = item; count = 1 }) = sym e ∙ (ap (slot new) q ∙ now) in
            let one : c ≡ record { item = item; count = 1 } = cc in
            subst (λ z. 0 < z.count) (sym one) (omega arith)
        | inr n ↦ ix.counted other c (sym (others other n) ∙ e)
      ]

  -- a lost key leaves its place
  pub index-remove : (i : ℕ) → i < length sorted → place_of sorted i ≡ key → slot new key ≡ None → SameElsewhere old new key → IsIndex before new (remove sorted i)
  index-remove i w is now others = record { live = live; listed = listed; rising = rising; counted = counted }
    where
      long : length (remove sorted i) + 1 ≡ length sorted
      long = length-remove sorted i w

      -- no two places have one key
      apart : (j : ℕ) → j < length sorted → j ≢ i → place_of sorted j ≢ key
      apart j l n e =
          let c = some-is (slot old key) (subst (λ z. IsSome (slot old z)) is (ix.live i w)) in
          let a : slot old (place_of sorted j) ≡ Some c.0 = ap (slot old) e ∙ c.1 in
          let b : slot old (place_of sorted i) ≡ Some c.0 = ap (slot old) is ∙ c.1 in
          elim (trichotomy j i) [
            | inl s ↦ grind (arith, ix.rising j i c.0 c.0 s w a b, laws.irreflexive c.0.item)
            | inr (inl q) ↦ n q
            | inr (inr s) ↦ grind (arith, ix.rising i j c.0 c.0 s l b a, laws.irreflexive c.0.item)
          ]

      at : (j : ℕ) → j < length sorted → j ≢ i → slot new (place_of sorted j) ≡ slot old (place_of sorted j)
      at j l n = others (place_of sorted j) (apart j l n)

      live : (k : ℕ) → k < length (remove sorted i) → IsSome (slot new (place_of (remove sorted i) k))
      live k l =
          let r = removed sorted i k w (omega (arith, long)) in
          subst (λ z. IsSome (slot new z)) (sym r.3) (subst IsSome (sym (at r.0 r.1 r.2)) (ix.live r.0 r.1))

      listed : (other : ℕ) → IsSome (slot new other) → (k : ℕ) × (k < length (remove sorted i)) × (place_of (remove sorted i) k ≡ other)
      listed other h = go (cases_eq other key)
        where
          place : (k : ℕ) → k < length sorted → place_of sorted k ≡ other → other ≢ key → (k < i) ⊎ ((k ≡ i) ⊎ (i < k)) → (k : ℕ) × (k < length (remove sorted i)) × (place_of (remove sorted i) k ≡ other)
          place k l e n (inl s) = (k, omega (arith, long), get_or-remove_below sorted i 0 k s w ∙ e)
          place k l e n (inr (inl q)) = absurd (n (sym e ∙ (ap (place_of sorted) q ∙ is)))
          place k l e n (inr (inr s)) =
              let q : k - 1 + 1 ≡ k = omega arith in
              (k - 1, omega (arith, long), get_or-remove_above sorted i 0 (k - 1) (omega arith) w ∙ (ap (place_of sorted) q ∙ e))

          go : (other ≡ key) ⊎ (other ≢ key) → (k : ℕ) × (k < length (remove sorted i)) × (place_of (remove sorted i) k ≡ other)
          go (inl e) = absurd (no-some (Counted T) (subst IsSome now (subst (λ z. IsSome (slot new z)) e h)))
          go (inr n) =
              let r = ix.listed other (subst IsSome (others other n) h) in
              place r.0 r.1 r.2 n (trichotomy r.0 i)

      rising : (j k : ℕ) (x y : Counted T) → j < k → k < length (remove sorted i) → slot new (place_of (remove sorted i) j) ≡ Some x → slot new (place_of (remove sorted i) k) ≡ Some y → before x.item y.item ≡ true
      rising j k x y l m e f =
          let a = removed sorted i j w (omega (arith, long)) in
          let b = removed sorted i k w (omega (arith, long)) in
          let less : a.0 < b.0 = elim (trichotomy j i) [ inl s ↦ elim (trichotomy k i) [ inl t ↦ omega (arith, a.4.0 s, b.4.0 t) | inr (inl t) ↦ omega (arith, a.4.0 s, b.4.1 (omega arith)) | inr (inr t) ↦ omega (arith, a.4.0 s, b.4.1 (omega arith)) ] | inr (inl s) ↦ omega (arith, a.4.1 (omega arith), b.4.1 (omega arith)) | inr (inr s) ↦ omega (arith, a.4.1 (omega arith), b.4.1 (omega arith)) ] in
          ix.rising a.0 b.0 x y less b.1 (sym (at a.0 a.1 a.2) ∙ (ap (slot new) (sym a.3) ∙ e)) (sym (at b.0 b.1 b.2) ∙ (ap (slot new) (sym b.3) ∙ f))

      counted : (other : ℕ) (c : Counted T) → slot new other ≡ Some c → 0 < c.count
      counted other c e = elim (cases_eq other key) [
        | inl q ↦
            let two : None ≡ Some c = sym now ∙ (ap (slot new) (sym q) ∙ e) in
            absurd cc
        | inr n ↦ ix.counted other c (sym (others other n) ∙ e)
      ]

  -- a count changes at a live key
  pub index-count : (was now : Counted T) → slot old key ≡ Some was → slot new key ≡ Some now → now.item ≡ was.item → 0 < now.count → SameElsewhere old new key → IsIndex before new sorted
  index-count was now e f q p others = record { live = live; listed = listed; rising = rising; counted = counted }
    where
      old-of : (other : ℕ) (c : Counted T) → slot new other ≡ Some c → (d : Counted T) × (slot old other ≡ Some d) × (c.item ≡ d.item) × (0 < c.count)
      old-of other c h = elim (cases_eq other key) [
        | inl s ↦
            let two : Some c ≡ Some now = sym h ∙ (ap (slot new) s ∙ f) in
            let one : c ≡ now = cc in
            (was, ap (slot old) s ∙ e, ap (λ z. z.item) one ∙ q, subst (λ z. 0 < z.count) (sym one) p)
        | inr n ↦
            let k : slot old other ≡ Some c = sym (others other n) ∙ h in
            (c, k, refl, ix.counted other c k)
      ]

      new-live : (other : ℕ) → IsSome (slot old other) → IsSome (slot new other)
      new-live other h = elim (cases_eq other key) [ inl s ↦ subst (λ z. IsSome (slot new z)) (sym s) (is-some (slot new key) now f) | inr n ↦ subst IsSome (sym (others other n)) h ]

      live : (k : ℕ) → k < length sorted → IsSome (slot new (place_of sorted k))
      live k l = new-live (place_of sorted k) (ix.live k l)

      listed : (other : ℕ) → IsSome (slot new other) → (k : ℕ) × (k < length sorted) × (place_of sorted k ≡ other)
      listed other h =
          let c = some-is (slot new other) h in
          let d = old-of other c.0 c.1 in
          ix.listed other (is-some (slot old other) d.0 d.1)

      rising : (j k : ℕ) (x y : Counted T) → j < k → k < length sorted → slot new (place_of sorted j) ≡ Some x → slot new (place_of sorted k) ≡ Some y → before x.item y.item ≡ true
      rising j k x y l m a b =
          let c = old-of (place_of sorted j) x a in
          let d = old-of (place_of sorted k) y b in
          subst (λ z. before z y.item ≡ true) (sym c.2) (subst (λ z. before c.0.item z ≡ true) (sym d.2) (ix.rising j k c.0 d.0 l m c.1 d.1))

      counted : (other : ℕ) (c : Counted T) → slot new other ≡ Some c → 0 < c.count
      counted other c h = (old-of other c h).3

module _ {T : Type 0} (covers before : T → T → Bool) (laws : CoverLaws covers before) (slots : List (Option (Counted T))) (sorted : List ℕ) (ix : IsIndex before slots sorted) (key : ℕ) (was : Counted T) (is : slot slots key ≡ Some was) where
  pub slot-within : key < length slots
  slot-within = grind (arith, get_or_past)

  pub set-others : (o : Option (Counted T)) → SameElsewhere slots (slice_set slots key o) key
  set-others o other n = get_or-set_other slots key other o None n

  pub index-set : (now : Counted T) → now.item ≡ was.item → 0 < now.count → IsIndex before (slice_set slots key (Some now)) sorted
  index-set now q p = index-count covers before laws slots (slice_set slots key (Some now)) sorted ix key was now is (get_or-set_same slots key (Some now) None slot-within) q p (set-others (Some now))

  -- no key loses its item
  pub keeps-set : (now : Counted T) → now.item ≡ was.item → (other : ℕ) (x : T) → (n : ℕ) × (slot slots other ≡ Some (record { item = x; count = n })) → (n : ℕ) × (slot (slice_set slots key (Some now)) other ≡ Some (record { item = x; count = n }))
  keeps-set now q other x a = elim (cases_eq other key) [
    | inl s ↦
        let two : Some was ≡ Some (record { item = x; count = a.0 }) = sym is ∙ (ap (slot slots) (sym s) ∙ a.1) in
        let one : was ≡ record { item = x; count = a.0 } = cc in
        let i : now.item ≡ x = q ∙ ap (λ z. z.item) one in
        let f : slot (slice_set slots key (Some now)) other ≡ Some now = ap (slot (slice_set slots key (Some now))) s ∙ get_or-set_same slots key (Some now) None slot-within in
        (now.count, subst (λ z. slot (slice_set slots key (Some now)) other ≡ Some (record { item = z; count = now.count })) i f)
    | inr n ↦ (a.0, set-others (Some now) other n ∙ a.1)
  ]

  pub count-down : 1 < was.count → (x : Counted T) × (slot slots key ≡ Some (record { item = x.item; count = x.count + 1 })) × (slot (slice_set slots key (Some (record { item = was.item; count = was.count - 1 }))) key ≡ Some x) × (0 < x.count)
  count-down more =
      let e : was.count ≡ was.count - 1 + 1 = omega arith in
      (record { item = was.item; count = was.count - 1 }, is ∙ ap (λ z. Some (record { item = was.item; count = z })) e, get_or-set_same slots key _ None slot-within, omega arith)

module _ {T : Type 0} (covers before : T → T → Bool) (laws : CoverLaws covers before) (slots : List (Option (Counted T))) (sorted : List ℕ) (ix : IsIndex before slots sorted) where
  pub distinct : (j k : ℕ) (x : T) → (n : ℕ) × (slot slots j ≡ Some (record { item = x; count = n })) → (n : ℕ) × (slot slots k ≡ Some (record { item = x; count = n })) → j ≡ k
  distinct j k x a b =
      let at = ix.listed j (is-some (slot slots j) _ a.1) in
      let there : slot slots (place_of sorted at.0) ≡ Some (record { item = x; count = a.0 }) = ap (slot slots) at.2 ∙ a.1 in
      sym at.2 ∙ one-place covers before laws slots sorted ix k at.0 a.0 (record { item = x; count = b.0 }) b.1 at.1 there
