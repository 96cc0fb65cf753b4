-- The items of the sorted keys: what stands at a place, and that a kept item is put in and a lost one taken out.
use Rattle.std.proofs.Common.{◌≡◌, inl, inr, ℕ, suc, zero, ◌<◌, ◌≤◌, Bool, true, List, [], ◌∷◌, ◌++◌, length, filter_map, slice_get, slice_set, Option, Some, None, IsSome, refl, sym, ap, subst, ◌∙◌, arith}
use Rattle.std.specs.Option.{option_map}
use Rattle.std.specs.List.{insert, remove}
use Rattle.std.proofs.lemmas.Bool.{cases_eq}
use Rattle.std.proofs.lemmas.Option.{same_Some}
use Rattle.base.specs.Laws.{CoverLaws}
use Rattle.base.specs.Sets.{Has, IsRising, put_in, minus, set_of}
use Rattle.base.proofs.Sets.{ext, has-put_in, rising-put_in, minus-iff, rising-minus, get-has, rising-set_of, has-set_of, has-append, has-append-left, has-append-right}
use Rattle.base_pool.specs.declared.pool.Counted.{Counted}
use Rattle.base_pool.specs.Pool.{slot, IsAt, item_at, items_of, IsSetOfItems, SameElsewhere, IsAbsent}
use Rattle.base_pool.specs.Sorted.{place_of, IsIndex}
use Rattle.base_pool.proofs.Order.{some-is, is-some, distinct, index-insert, index-remove, set-others, slot-within}
use Rattle.std.proofs.lemmas.List.{get_or-set_same}

module _ {T : Type 0} (slots : List (Option (Counted T))) where
  pub at-item : (key : ℕ) (x : T) → item_at slots key ≡ Some x → IsAt slots key x
  at-item key x e = go (slot slots key) refl e
    where
      go : (o : Option (Counted T)) → slot slots key ≡ o → option_map (λ c. c.item) o ≡ Some x → IsAt slots key x
      go None q f = absurd cc
      go (Some c) q f =
          let i : c.item ≡ x = cc in
          (c.count, subst (λ z. slot slots key ≡ Some (record { item = z; count = c.count })) i q)

  pub item-at : (key : ℕ) (x : T) → IsAt slots key x → item_at slots key ≡ Some x
  item-at key x a = ap (option_map (λ c. c.item)) a.1

  live-item : (key : ℕ) → IsSome (slot slots key) → (x : T) × (item_at slots key ≡ Some x)
  live-item key l = let c = some-is (slot slots key) l in (c.0.item, ap (option_map (λ z. z.item)) c.1)

  -- the keys of a row are live
  abbrev AreLive : List ℕ → Type 0
  AreLive row = (k : ℕ) → k < length row → IsSome (slot slots (place_of row k))

  pub items-cons : (key : ℕ) (row : List ℕ) (x : T) → item_at slots key ≡ Some x → items_of slots (key ∷ row) ≡ x ∷ items_of slots row
  unfolding items_of
  items-cons key row x e = rw e refl

  pub items-length : (row : List ℕ) → AreLive row → length (items_of slots row) ≡ length row
  unfolding items_of
  items-length [] l = refl
  items-length (key ∷ row) l =
      let x = live-item key (l zero (omega arith)) in
      ap length (items-cons key row x.0 x.1) ∙ ap suc (items-length row (λ k m. l (suc k) (omega arith)))

  -- what stands at a place
  pub items-at : (row : List ℕ) → AreLive row → (k : ℕ) (x : T) → k < length row → IsAt slots (place_of row k) x → slice_get (items_of slots row) k ≡ Some x
  items-at [] l k x m a = absurd (omega arith)
  items-at (key ∷ row) l zero x m a = ap (λ z. slice_get z zero) (items-cons key row x (item-at key x a))
  items-at (key ∷ row) l (suc k) x m a =
      let y = live-item key (l zero (omega arith)) in
      ap (λ z. slice_get z (suc k)) (items-cons key row y.0 y.1) ∙ items-at row (λ j n. l (suc j) (omega arith)) k x (omega arith) a

  pub has-items : (row : List ℕ) → AreLive row → (x : T) → Has x (items_of slots row) → (k : ℕ) × (k < length row) × IsAt slots (place_of row k) x
  unfolding items_of
  has-items [] l x h = absurd h
  has-items (key ∷ row) l x h =
      let y = live-item key (l zero (omega arith)) in
      elim (subst (Has x) (items-cons key row y.0 y.1) h) [
        | inl q ↦ (zero, omega arith, at-item key x (y.1 ∙ ap (λ z. Some z) (sym q)))
        | inr r ↦
            let t = has-items row (λ j n. l (suc j) (omega arith)) x r in
            (suc t.0, omega (arith, t.1), t.2)
      ]

  pub items-has : (row : List ℕ) → AreLive row → (k : ℕ) (x : T) → k < length row → IsAt slots (place_of row k) x → Has x (items_of slots row)
  items-has row l k x m a = get-has (items_of slots row) k x (items-at row l k x m a)

  pub items-rise : (before : T → T → Bool) (row : List ℕ) → AreLive row
      → ((j k : ℕ) (x y : Counted T) → j < k → k < length row → slot slots (place_of row j) ≡ Some x → slot slots (place_of row k) ≡ Some y → before x.item y.item ≡ true)
      → IsRising before (items_of slots row)
  unfolding items_of
  items-rise before [] l r = tt
  items-rise before (key ∷ row) l r =
      let y = live-item key (l zero (omega arith)) in
      let live : AreLive row = λ j n. l (suc j) (omega arith) in
      let rest : IsRising before (items_of slots row) = items-rise before row live (λ j k a b m n. r (suc j) (suc k) a b (omega arith) (omega arith)) in
      let first : (z : T) → Has z (items_of slots row) → before y.0 z ≡ true =
      (λ z h.
      let a = at-item key y.0 y.1 in
      let b = has-items row live z h in
      r zero (suc b.0) (record { item = y.0; count = a.0 }) (record { item = z; count = b.2.0 }) (omega arith) (omega (arith, b.1)) a.1 b.2.1) in
      subst (IsRising before) (sym (items-cons key row y.0 y.1)) (first, rest)

-- keys that keep their items
pub items-same : {T : Type 0} (old new : List (Option (Counted T))) (row : List ℕ) → ((key : ℕ) → item_at new key ≡ item_at old key) → items_of new row ≡ items_of old row
unfolding items_of
items-same {T} old new [] s = refl
items-same {T} old new (key ∷ row) s = go (item_at old key) refl (items-same old new row s)
  where
    go : (o : Option T) → item_at old key ≡ o → filter_map (item_at new) row ≡ filter_map (item_at old) row → filter_map (item_at new) (key ∷ row) ≡ filter_map (item_at old) (key ∷ row)
    go None e ih = rw (s key, e) ih
    go (Some x) e ih = rw (s key, e) (ap (λ zs. x ∷ zs) ih)

module _ {T : Type 0} (covers before : T → T → Bool) (laws : CoverLaws covers before) (slots : List (Option (Counted T))) (sorted : List ℕ) (ix : IsIndex before slots sorted) where
  -- the items are the set of the live ones
  pub items-set : IsSetOfItems before slots (items_of slots sorted)
  items-set = (items-rise slots before sorted ix.live ix.rising, λ x. (to x, from x))
    where
      to : (x : T) → Has x (items_of slots sorted) → (key : ℕ) × IsAt slots key x
      to x h = let a = has-items slots sorted ix.live x h in (place_of sorted a.0, a.2)

      from : (x : T) → (key : ℕ) × IsAt slots key x → Has x (items_of slots sorted)
      from x (key, a) =
          let k = ix.listed key (is-some (slot slots key) _ a.1) in
          items-has slots sorted ix.live k.0 x k.1 (subst (λ z. IsAt slots z x) (sym k.2) a)

  pub absent-has : (x : T) → IsAbsent slots x → Has x (items_of slots sorted) → ⊥
  absent-has x a h =
      let t = (items-set.1 x).0 h in
      a t.0 (record { item = x; count = t.1.0 }) t.1.1 refl

pub one-item : {T : Type 0} (c d : Counted T) → Some c ≡ Some d → c.item ≡ d.item
one-item c d e = ap (λ z. z.item) (same_Some c d e)

-- a set with one member more, or one fewer
module _ {T : Type 0} (covers before : T → T → Bool) (laws : CoverLaws covers before) (old new : List (Option (Counted T))) (olds news : List T)
    (is : IsSetOfItems before old olds) (are : IsSetOfItems before new news) (key : ℕ) (others : SameElsewhere old new key) where
  -- nothing was there, and now the item is
  pub set-more : (item : T) → slot old key ≡ None → IsAt new key item → news ≡ put_in before item olds
  set-more item was now = ext laws news (put_in before item olds) are.0 (rising-put_in laws item olds is.0) to from
    where
      same : (k : ℕ) (x : T) → IsAt old k x → IsAt new k x
      same k x a = elim (cases_eq k key) [
        | inl q ↦
            let no : Some (record { item = x; count = a.0 }) ≡ None = sym a.1 ∙ (ap (slot old) q ∙ was) in
            absurd cc
        | inr n ↦ (a.0, others k n ∙ a.1)
      ]

      to : (x : T) → Has x news → Has x (put_in before item olds)
      to x h =
          let a = (are.1 x).0 h in
          elim (cases_eq a.0 key) [
            | inl q ↦
                let two : Some (record { item = x; count = a.1.0 }) ≡ Some (record { item = item; count = now.0 }) = sym a.1.1 ∙ (ap (slot new) q ∙ now.1) in
                (has-put_in laws item x olds).1 (inl (one-item (record { item = x; count = a.1.0 }) (record { item = item; count = now.0 }) two))
            | inr n ↦ (has-put_in laws item x olds).1 (inr ((is.1 x).1 (a.0, (a.1.0, sym (others a.0 n) ∙ a.1.1))))
          ]

      from : (x : T) → Has x (put_in before item olds) → Has x news
      from x h = elim ((has-put_in laws item x olds).0 h) [
        | inl q ↦ subst (λ z. Has z news) (sym q) ((are.1 item).1 (key, now))
        | inr m ↦ let a = (is.1 x).0 m in (are.1 x).1 (a.0, same a.0 x a.1)
      ]

  -- the item was there, and now nothing is
  pub set-fewer : (item : T) → IsAt old key item → slot new key ≡ None → ((k : ℕ) → IsAt old k item → k ≡ key) → news ≡ minus before olds (item ∷ [])
  set-fewer item was now one = ext laws news (minus before olds (item ∷ [])) are.0 (rising-minus laws olds (item ∷ []) is.0) to from
    where
      to : (x : T) → Has x news → Has x (minus before olds (item ∷ []))
      to x h =
          let a = (are.1 x).0 h in
          elim (cases_eq a.0 key) [
            | inl q ↦
                let no : Some (record { item = x; count = a.1.0 }) ≡ None = sym a.1.1 ∙ (ap (slot new) q ∙ now) in
                absurd cc
            | inr n ↦
                let b : IsAt old a.0 x = (a.1.0, sym (others a.0 n) ∙ a.1.1) in
                (minus-iff laws x olds (item ∷ [])).1 ((is.1 x).1 (a.0, b), λ m. elim m [ inl q ↦ n (one a.0 (subst (IsAt old a.0) q b)) | inr v ↦ v ])
          ]

      from : (x : T) → Has x (minus before olds (item ∷ [])) → Has x news
      from x h =
          let m = (minus-iff laws x olds (item ∷ [])).0 h in
          let a = (is.1 x).0 m.0 in
          elim (cases_eq a.0 key) [
            | inl q ↦
                let two : Some (record { item = x; count = a.1.0 }) ≡ Some (record { item = item; count = was.0 }) = sym a.1.1 ∙ (ap (slot old) q ∙ was.1) in
                absurd (m.1 (inl (one-item (record { item = x; count = a.1.0 }) (record { item = item; count = was.0 }) two)))
            | inr n ↦ (are.1 x).1 (a.0, (a.1.0, others a.0 n ∙ a.1.1))
          ]

-- a member put in again
pub put_in-same : {T : Type 0} (covers before : T → T → Bool) (laws : CoverLaws covers before) (item : T) (xs : List T) → IsRising before xs → Has item xs → put_in before item xs ≡ xs
put_in-same covers before laws item xs r h = ext laws (put_in before item xs) xs (rising-put_in laws item xs r) r
    (λ x m. elim ((has-put_in laws item x xs).0 m) [ inl q ↦ subst (λ z. Has z xs) (sym q) h | inr t ↦ t ])
    (λ x m. (has-put_in laws item x xs).1 (inr m))

pub items-none : {T : Type 0} (slots : List (Option (Counted T))) → items_of slots [] ≡ []
unfolding items_of
items-none slots = refl

module _ {T : Type 0} (covers before : T → T → Bool) (laws : CoverLaws covers before) (slots : List (Option (Counted T))) (sorted : List ℕ) (ix : IsIndex before slots sorted) where
  pub nth-item : (k key : ℕ) (c : Counted T) → k < length sorted → key ≡ place_of sorted k → slot slots key ≡ Some c → slice_get (items_of slots sorted) k ≡ Some c.item
  nth-item k key c l q e = items-at slots sorted ix.live k c.item l (c.count, ap (slot slots) (sym q) ∙ e)

  -- a count changes
  pub count-items : (key : ℕ) (was now : Counted T) → slot slots key ≡ Some was → now.item ≡ was.item → items_of (slice_set slots key (Some now)) sorted ≡ items_of slots sorted
  count-items key was now e q = items-same slots (slice_set slots key (Some now)) sorted same
    where
      same : (k : ℕ) → item_at (slice_set slots key (Some now)) k ≡ item_at slots k
      same k = elim (cases_eq k key) [
        | inl s ↦
            let here : slot (slice_set slots key (Some now)) k ≡ Some now = ap (slot (slice_set slots key (Some now))) s ∙ get_or-set_same slots key (Some now) None (slot-within covers before laws slots sorted ix key was e) in
            let there : slot slots k ≡ Some was = ap (slot slots) s ∙ e in
            item-at (slice_set slots key (Some now)) k now.item (now.count, here) ∙ ap (λ z. Some z) q ∙ sym (item-at slots k was.item (was.count, there))
        | inr n ↦ ap (option_map (λ c. c.item)) (set-others covers before laws slots sorted ix key was e (Some now) k n)
      ]

  -- the item that is kept once more
  pub again-items : (i : ℕ) (item : T) → i < length sorted → IsAt slots (place_of sorted i) item → put_in before item (items_of slots sorted) ≡ items_of slots sorted
  again-items i item l a = put_in-same covers before laws item (items_of slots sorted) (items-set covers before laws slots sorted ix).0 (items-has slots sorted ix.live i item l a)

module _ {T : Type 0} (covers before : T → T → Bool) (laws : CoverLaws covers before) (old new : List (Option (Counted T))) (sorted : List ℕ) (ix : IsIndex before old sorted) (key : ℕ) (others : SameElsewhere old new key) where
  pub kept-items : (item : T) (i : ℕ) → i ≤ length sorted → slot old key ≡ None → slot new key ≡ Some (record { item = item; count = 1 })
      → ((k : ℕ) (x : Counted T) → k < i → slot old (place_of sorted k) ≡ Some x → before x.item item ≡ true)
      → ((k : ℕ) (x : Counted T) → i ≤ k → k < length sorted → slot old (place_of sorted k) ≡ Some x → before item x.item ≡ true)
      → items_of new (insert sorted i key) ≡ put_in before item (items_of old sorted)
  kept-items item i w was now below above =
      set-more covers before laws old new (items_of old sorted) (items_of new (insert sorted i key)) (items-set covers before laws old sorted ix)
      (items-set covers before laws new (insert sorted i key) (index-insert covers before laws old new sorted ix key item i w was now others below above))
      key others item was (1, now)

  pub lost-items : (item : T) (i : ℕ) → i < length sorted → place_of sorted i ≡ key → IsAt old key item → slot new key ≡ None
      → items_of new (remove sorted i) ≡ minus before (items_of old sorted) (item ∷ [])
  lost-items item i w is was now =
      set-fewer covers before laws old new (items_of old sorted) (items_of new (remove sorted i)) (items-set covers before laws old sorted ix)
      (items-set covers before laws new (remove sorted i) (index-remove covers before laws old new sorted ix key i w is now others))
      key others item was now (λ k a. distinct covers before laws old sorted ix k key item a was)

-- one more member of a list is put into its set
pub set_of-push : {T : Type 0} {covers before : T → T → Bool} (laws : CoverLaws covers before) (xs : List T) (x : T) → set_of before (xs ++ x ∷ []) ≡ put_in before x (set_of before xs)
set_of-push {T} {covers} {before} laws xs x = ext laws (set_of before (xs ++ x ∷ [])) (put_in before x (set_of before xs)) (rising-set_of laws (xs ++ x ∷ [])) (rising-put_in laws x (set_of before xs) (rising-set_of laws xs)) to from
  where
    to : (y : T) → Has y (set_of before (xs ++ x ∷ [])) → Has y (put_in before x (set_of before xs))
    to y h = elim (has-append y xs (x ∷ []) ((has-set_of laws y (xs ++ x ∷ [])).0 h)) [
      | inl m ↦ (has-put_in laws x y (set_of before xs)).1 (inr ((has-set_of laws y xs).1 m))
      | inr m ↦ (has-put_in laws x y (set_of before xs)).1 (elim m [ inl q ↦ inl q | inr v ↦ absurd v ])
    ]

    from : (y : T) → Has y (put_in before x (set_of before xs)) → Has y (set_of before (xs ++ x ∷ []))
    from y h = (has-set_of laws y (xs ++ x ∷ [])).1 (elim ((has-put_in laws x y (set_of before xs)).0 h) [
      | inl q ↦ has-append-right y xs (x ∷ []) (inl q)
      | inr m ↦ has-append-left y xs (x ∷ []) ((has-set_of laws y xs).0 m)
    ])
