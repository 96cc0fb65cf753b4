-- The pairs of numbers that each have a row of places.
use Rattle.std.proofs.Common.{◌≡◌, ◌↔◌, inl, inr, ℕ, zero, suc, ◌+◌, ◌<◌, ◌^◌, ◌∙◌, nat_lt, Bool, true, false, cond, List, [], ◌∷◌, length, get_or, set, refl, sym, ap, ap₂, subst, arith}
use Rattle.std.proofs.lemmas.Bool.{cases_eq}
use Rattle.std.proofs.lemmas.Bool.Decides.{nat_tests}
use Rattle.base.specs.Sets.{Has, member, IsRising, put_in, minus}
use Rattle.base.proofs.Sets.{ext, has-put_in, rising-put_in, minus-iff, rising-minus, member-iff}
use Rattle.base_bits.specs.Rows.{Numbers, IsSet, is_in}
use Rattle.base_bits.proofs.Passing.{nat_laws}
use Rattle.match_routes.specs.Installed.{Pair, pair_before}
use Rattle.match_routes.specs.Rows.{pairs_of, AreSets, AreRows}
use Rattle.match_routes.specs.Columns.{numbers_at, row_at, rows_from, AreColumns}
use Rattle.match_routes.specs.Rows.{AreEmpty}
use Rattle.match_routes.proofs.Pairs.{nothing, pair_laws, rising-pairs, has-place, place-has, set-at, sets-with, length-with, with-same, with-other, one-place}

-- the numbers of a place

pub record IsFrom (place i : ℕ) (columns : List Numbers) (k : ℕ) : Type 0 where
  pub offset : ℕ
  pub number : k ≡ i + offset
  pub within : offset < length columns
  pub there : Has place (get_or columns offset nothing).members

module _ (place : ℕ) where
  pub has-numbers : (i : ℕ) (columns : List Numbers) (k : ℕ) → Has k (numbers_at place i columns) → IsFrom place i columns k
  has-numbers i [] k h = absurd h
  has-numbers i (column ∷ columns) k h = go (is_in place column.members) refl h (has-numbers (suc i) columns k)
    where
      later : IsFrom place (suc i) columns k → IsFrom place i (column ∷ columns) k
      later r = record { offset = suc r.offset; number = omega (arith, r.number); within = omega (arith, r.within); there = r.there }

      go : (b : Bool) → is_in place column.members ≡ b → Has k (cond b (i ∷ numbers_at place (suc i) columns) (numbers_at place (suc i) columns)) → (Has k (numbers_at place (suc i) columns) → IsFrom place (suc i) columns k) → IsFrom place i (column ∷ columns) k
      go true e (inl q) ih = record { offset = zero; number = omega (arith, q); within = omega arith; there = (member-iff nat_laws place column.members).0 e }
      go true e (inr m) ih = later (ih m)
      go false e m ih = later (ih m)

  pub numbers-has : (i : ℕ) (columns : List Numbers) (j : ℕ) → j < length columns → Has place (get_or columns j nothing).members → Has (i + j) (numbers_at place i columns)
  numbers-has i [] j l h = absurd (omega (arith, l))
  numbers-has i (column ∷ columns) zero l h =
      let z : i + 0 ≡ i = omega arith in
      rw ((member-iff nat_laws place column.members).1 h) (inl z)
  numbers-has i (column ∷ columns) (suc j) l h =
      let z : suc i + j ≡ i + suc j = omega arith in
      go (is_in place column.members) (subst (λ (k : ℕ). Has k (numbers_at place (suc i) columns)) z (numbers-has (suc i) columns j (omega (arith, l)) h))
    where
      go : (b : Bool) → Has (i + suc j) (numbers_at place (suc i) columns) → Has (i + suc j) (cond b (i ∷ numbers_at place (suc i) columns) (numbers_at place (suc i) columns))
      go true m = inr m
      go false m = m

  rising-numbers : (i : ℕ) (columns : List Numbers) → IsRising nat_lt (numbers_at place i columns)
  rising-numbers i [] = tt
  rising-numbers i (column ∷ columns) = go (is_in place column.members) (rising-numbers (suc i) columns)
    where
      higher : (k : ℕ) → Has k (numbers_at place (suc i) columns) → nat_lt i k ≡ true
      higher k h = let q = (has-numbers (suc i) columns k h).number in grind (arith, nat_tests)

      go : (b : Bool) → IsRising nat_lt (numbers_at place (suc i) columns) → IsRising nat_lt (cond b (i ∷ numbers_at place (suc i) columns) (numbers_at place (suc i) columns))
      go true r = (higher, r)
      go false r = r

-- the rows

row-is : (p : ℕ) (interfaces : List ℕ) (columns : List Numbers) (q : ℕ) → q < length interfaces → get_or (rows_from p interfaces columns) q nothing ≡ row_at (p + q) columns
row-is p [] columns q l = absurd (omega (arith, l))
row-is p (k ∷ interfaces) columns zero l =
    let z : p ≡ p + 0 = omega arith in
    ap (λ (n : ℕ). row_at n columns) z
row-is p (k ∷ interfaces) columns (suc q) l =
    let z : suc p + q ≡ p + suc q = omega arith in
    row-is (suc p) interfaces columns q (omega (arith, l)) ∙ ap (λ (n : ℕ). row_at n columns) z

length-rows : (p : ℕ) (interfaces : List ℕ) (columns : List Numbers) → length (rows_from p interfaces columns) ≡ length interfaces
length-rows p [] columns = refl
length-rows p (k ∷ interfaces) columns = ap suc (length-rows (suc p) interfaces columns)

sets-rows : (p : ℕ) (interfaces : List ℕ) (columns : List Numbers) → length columns < 2 ^ 32 → AreSets (length columns) (rows_from p interfaces columns)
sets-rows p [] columns l = tt
sets-rows p (k ∷ interfaces) columns l = (here, refl, sets-rows (suc p) interfaces columns l)
  where
    here : IsSet (row_at p columns)
    here = record {
      rising = rising-numbers p 0 columns;
      within = λ i h. (let q = has-numbers p 0 columns i h in omega (arith, q.number, q.within));
      fits = l;
    }

pub are-rows : (width : ℕ) (interfaces : List ℕ) (columns : List Numbers) → AreColumns width interfaces columns → AreRows width interfaces (rows_from 0 interfaces columns)
are-rows width interfaces columns is = record {
  rising = is.rising;
  long = length-rows 0 interfaces columns;
  sets = subst (λ (w : ℕ). AreSets w (rows_from 0 interfaces columns)) is.long (sets-rows 0 interfaces columns (omega (arith, is.long, is.fits)));
}

-- the pairs

-- a pair's number has the place of its interface
pub record InColumn (interfaces : List ℕ) (columns : List Numbers) (x : Pair) : Type 0 where
  pub place : ℕ
  pub within : place < length interfaces
  pub interface : get_or interfaces place 0 ≡ x.0
  pub number : x.1 < length columns
  pub there : Has place (get_or columns x.1 nothing).members

pub has-column : (interfaces : List ℕ) (columns : List Numbers) (x : Pair) → Has x (pairs_of interfaces (rows_from 0 interfaces columns)) → InColumn interfaces columns x
has-column interfaces columns x h =
    let q = has-place interfaces (rows_from 0 interfaces columns) x h in
    let m : Has x.1 (row_at (0 + q.place) columns).members = subst (λ (row : Numbers). Has x.1 row.members) (row-is 0 interfaces columns q.place q.within) q.number in
    let f = has-numbers (0 + q.place) 0 columns x.1 m in
    let e : f.offset ≡ x.1 = omega (arith, f.number) in
    let z : 0 + q.place ≡ q.place = omega arith in
    record {
      place = q.place;
      within = q.within;
      interface = q.interface;
      number = omega (arith, e, f.within);
      there = subst (λ (k : ℕ). Has q.place (get_or columns k nothing).members) e (subst (λ (k : ℕ). Has k (get_or columns f.offset nothing).members) z f.there);
    }

pub column-has : (interfaces : List ℕ) (columns : List Numbers) (x : Pair) → InColumn interfaces columns x → Has x (pairs_of interfaces (rows_from 0 interfaces columns))
column-has interfaces columns x q =
    let z : q.place ≡ 0 + q.place = omega arith in
    let y : 0 + x.1 ≡ x.1 = omega arith in
    let m : Has (0 + x.1) (numbers_at (0 + q.place) 0 columns) = numbers-has (0 + q.place) 0 columns x.1 q.number (subst (λ (k : ℕ). Has k (get_or columns x.1 nothing).members) z q.there) in
    let n : Has x.1 (row_at (0 + q.place) columns).members = subst (λ (k : ℕ). Has k (numbers_at (0 + q.place) 0 columns)) y m in
    let o : Has x.1 (get_or (rows_from 0 interfaces columns) q.place nothing).members = subst (λ (row : Numbers). Has x.1 row.members) (sym (row-is 0 interfaces columns q.place q.within)) n in
    subst (λ (k : ℕ). Has (k, x.1) (pairs_of interfaces (rows_from 0 interfaces columns))) q.interface (place-has interfaces (rows_from 0 interfaces columns) q.place x.1 q.within (omega (arith, length-rows 0 interfaces columns, q.within)) o)

empty-at : (rows : List Numbers) (k : ℕ) → AreEmpty rows → (get_or rows k nothing).members ≡ []
empty-at [] k e = refl
empty-at (row ∷ rows) zero e = e.0
empty-at (row ∷ rows) (suc k) e = empty-at rows k e.1

pub none-installed : (interfaces : List ℕ) (columns : List Numbers) → AreEmpty columns → pairs_of interfaces (rows_from 0 interfaces columns) ≡ []
none-installed interfaces columns e = go (pairs_of interfaces (rows_from 0 interfaces columns)) (λ x h. (let q = has-column interfaces columns x h in subst (Has q.place) (empty-at columns x.1 e) q.there))
  where
    go : (xs : List Pair) → ((x : Pair) → Has x xs → ⊥) → xs ≡ []
    go [] h = refl
    go (x ∷ xs) h = absurd (h x (inl refl))

-- a place among the interfaces, and a number's row
pub record IsSpot (width : ℕ) (interfaces : List ℕ) (columns : List Numbers) (place interface number : ℕ) (column : Numbers) : Type 0 where
  pub kept : AreColumns width interfaces columns
  pub within : place < length interfaces
  pub here : get_or interfaces place 0 ≡ interface
  pub known : number < length columns
  pub stands : column ≡ get_or columns number nothing

module _ {width : ℕ} {interfaces : List ℕ} {columns : List Numbers} {place interface number : ℕ} {column : Numbers} (is : IsSpot width interfaces columns place interface number column) where
  pub column-set : IsSet column × (column.width ≡ length interfaces)
  column-set = subst (λ (r : Numbers). IsSet r × (r.width ≡ length interfaces)) (sym is.stands) (set-at (length interfaces) columns number nothing is.kept.sets is.known)

  rising : IsRising pair_before (pairs_of interfaces (rows_from 0 interfaces columns))
  rising = let r = are-rows width interfaces columns is.kept in rising-pairs width interfaces (rows_from 0 interfaces columns) r.rising r.sets

  -- the pairs of the number are the places of its row
  pub spot-has : (q : ℕ) → q < length interfaces → Has (get_or interfaces q 0, number) (pairs_of interfaces (rows_from 0 interfaces columns)) ↔ Has q column.members
  spot-has q l = (to, from)
    where
      to : Has (get_or interfaces q 0, number) (pairs_of interfaces (rows_from 0 interfaces columns)) → Has q column.members
      to h =
          let c = has-column interfaces columns (get_or interfaces q 0, number) h in
          let e : c.place ≡ q = one-place interfaces is.kept.rising c.place q c.within l c.interface in
          subst (λ (row : Numbers). Has q row.members) (sym is.stands) (subst (λ (k : ℕ). Has k (get_or columns number nothing).members) e c.there)

      from : Has q column.members → Has (get_or interfaces q 0, number) (pairs_of interfaces (rows_from 0 interfaces columns))
      from h = column-has interfaces columns (get_or interfaces q 0, number) (record { place = q; within = l; interface = refl; number = is.known; there = subst (λ (row : Numbers). Has q row.members) is.stands h })

  -- whether the place is in the row is whether the pair is there
  pub spot-member : is_in place column.members ≡ member pair_before (interface, number) (pairs_of interfaces (rows_from 0 interfaces columns))
  spot-member = go (is_in place column.members) (member pair_before (interface, number) pairs) refl refl
    where
      pairs : List Pair
      pairs = pairs_of interfaces (rows_from 0 interfaces columns)

      into : Has place column.members → Has (interface, number) pairs
      into h = subst (λ (k : ℕ). Has (k, number) pairs) is.here ((spot-has place is.within).1 h)

      out : Has (interface, number) pairs → Has place column.members
      out h = (spot-has place is.within).0 (subst (λ (k : ℕ). Has (k, number) pairs) (sym is.here) h)

      go : (a b : Bool) → is_in place column.members ≡ a → member pair_before (interface, number) pairs ≡ b → a ≡ b
      go true true e f = refl
      go false false e f = refl
      go true false e f = sym ((member-iff pair_laws (interface, number) pairs).1 (into ((member-iff nat_laws place column.members).0 e))) ∙ f
      go false true e f = sym e ∙ (member-iff nat_laws place column.members).1 (out ((member-iff pair_laws (interface, number) pairs).0 f))

  module _ (new : Numbers) (set-new : IsSet new) (wide : new.width ≡ length interfaces) where
    pub columns-with : AreColumns width interfaces (set columns number new)
    columns-with = record { rising = is.kept.rising; long = length-with columns number new ∙ is.kept.long; fits = is.kept.fits; few = is.kept.few; sets = sets-with (length interfaces) columns number new is.kept.sets set-new wide }

    pub spot-with : IsSpot width interfaces (set columns number new) place interface number new
    spot-with = record { kept = columns-with; within = is.within; here = is.here; known = omega (arith, length-with columns number new, is.known); stands = sym (with-same columns number new nothing is.known) }

module _ {width : ℕ} {interfaces : List ℕ} {columns : List Numbers} {place interface number : ℕ} {column : Numbers} (is : IsSpot width interfaces columns place interface number column) where
  module _ (new : Numbers) (set-new : IsSet new) (wide : new.width ≡ length interfaces) where
    -- the pairs of other numbers stay
    others-stay : (x : Pair) → (x.1 ≡ number → ⊥) → Has x (pairs_of interfaces (rows_from 0 interfaces (set columns number new))) ↔ Has x (pairs_of interfaces (rows_from 0 interfaces columns))
    others-stay x n = (to, from)
      where
        to : Has x (pairs_of interfaces (rows_from 0 interfaces (set columns number new))) → Has x (pairs_of interfaces (rows_from 0 interfaces columns))
        to h =
            let q = has-column interfaces (set columns number new) x h in
            column-has interfaces columns x (record { place = q.place; within = q.within; interface = q.interface; number = omega (arith, q.number, length-with columns number new); there = subst (λ (row : Numbers). Has q.place row.members) (with-other columns number x.1 new nothing n) q.there })

        from : Has x (pairs_of interfaces (rows_from 0 interfaces columns)) → Has x (pairs_of interfaces (rows_from 0 interfaces (set columns number new)))
        from h =
            let q = has-column interfaces columns x h in
            column-has interfaces (set columns number new) x (record { place = q.place; within = q.within; interface = q.interface; number = omega (arith, q.number, length-with columns number new); there = subst (λ (row : Numbers). Has q.place row.members) (sym (with-other columns number x.1 new nothing n)) q.there })

    -- the new pairs are a set with these members
    now-are : (xs : List Pair) → IsRising pair_before xs → ((q : ℕ) → q < length interfaces → Has q new.members ↔ Has (get_or interfaces q 0, number) xs) → ((x : Pair) → Has x xs → x.1 ≡ number → (q : ℕ) × (q < length interfaces) × (get_or interfaces q 0 ≡ x.0)) → ((x : Pair) → (x.1 ≡ number → ⊥) → Has x (pairs_of interfaces (rows_from 0 interfaces columns)) ↔ Has x xs) → pairs_of interfaces (rows_from 0 interfaces (set columns number new)) ≡ xs
    now-are xs r mine placed others = ext pair_laws (pairs_of interfaces (rows_from 0 interfaces (set columns number new))) xs (rising spot) r to from
      where
        spot : IsSpot width interfaces (set columns number new) place interface number new
        spot = spot-with is new set-new wide

        to : (x : Pair) → Has x (pairs_of interfaces (rows_from 0 interfaces (set columns number new))) → Has x xs
        to x h = elim (cases_eq x.1 number) [
          | inl e ↦
              let q = has-column interfaces (set columns number new) x h in
              let g : x ≡ (get_or interfaces q.place 0, number) = ap₂ (λ (a b : ℕ). (a, b)) (sym q.interface) e in
              subst (λ (y : Pair). Has y xs) (sym g) ((mine q.place q.within).0 ((spot-has spot q.place q.within).0 (subst (λ (y : Pair). Has y (pairs_of interfaces (rows_from 0 interfaces (set columns number new)))) g h)))
          | inr n ↦ (others x n).0 ((others-stay x n).0 h)
        ]

        from : (x : Pair) → Has x xs → Has x (pairs_of interfaces (rows_from 0 interfaces (set columns number new)))
        from x h = elim (cases_eq x.1 number) [
          | inl e ↦
              let q = placed x h e in
              let g : x ≡ (get_or interfaces q.0 0, number) = ap₂ (λ (a b : ℕ). (a, b)) (sym q.2) e in
              subst (λ (y : Pair). Has y (pairs_of interfaces (rows_from 0 interfaces (set columns number new)))) (sym g) ((spot-has spot q.0 q.1).1 ((mine q.0 q.1).1 (subst (λ (y : Pair). Has y xs) g h)))
          | inr n ↦ (others-stay x n).1 ((others x n).1 h)
        ]

  at-of : (x : Pair) → Has x (pairs_of interfaces (rows_from 0 interfaces columns)) → (q : ℕ) × (q < length interfaces) × (get_or interfaces q 0 ≡ x.0)
  at-of x h = let q = has-column interfaces columns x h in (q.place, q.within, q.interface)

  -- a place put into the row
  module _ (new : Numbers) (wide : new.width ≡ column.width) (members : new.members ≡ put_in nat_lt place column.members) where
    pub put-column : IsSet new
    put-column = record {
      rising = subst (IsRising nat_lt) (sym members) (rising-put_in nat_laws place column.members (column-set is).0.rising);
      within = λ k h. elim ((has-put_in nat_laws place k column.members).0 (subst (Has k) members h)) [
        | inl q ↦ omega (arith, q, is.within, wide, (column-set is).1)
        | inr m ↦ (let l = (column-set is).0.within k m in omega (arith, l, wide))
      ];
      fits = omega (arith, (column-set is).0.fits, wide);
    }

    pub put-columns : AreColumns width interfaces (set columns number new)
    put-columns = columns-with is new put-column (wide ∙ (column-set is).1)

    pub put-installed : pairs_of interfaces (rows_from 0 interfaces (set columns number new)) ≡ put_in pair_before (interface, number) (pairs_of interfaces (rows_from 0 interfaces columns))
    put-installed = now-are new put-column (wide ∙ (column-set is).1) (put_in pair_before (interface, number) pairs) (rising-put_in pair_laws (interface, number) pairs (rising is)) mine placed others
      where
        pairs : List Pair
        pairs = pairs_of interfaces (rows_from 0 interfaces columns)

        mine : (q : ℕ) → q < length interfaces → Has q new.members ↔ Has (get_or interfaces q 0, number) (put_in pair_before (interface, number) pairs)
        mine q l = (
          (λ h. (has-put_in pair_laws (interface, number) (get_or interfaces q 0, number) pairs).1 (elim ((has-put_in nat_laws place q column.members).0 (subst (Has q) members h)) [
            | inl e ↦ inl (ap (λ (k : ℕ). (get_or interfaces k 0, number)) e ∙ ap (λ (k : ℕ). (k, number)) is.here)
            | inr m ↦ inr ((spot-has is q l).1 m)
          ])),
          (λ h. subst (Has q) (sym members) ((has-put_in nat_laws place q column.members).1 (elim ((has-put_in pair_laws (interface, number) (get_or interfaces q 0, number) pairs).0 h) [
            | inl e ↦ inl (one-place interfaces is.kept.rising q place l is.within (ap (λ (z : Pair). z.0) e ∙ sym is.here))
            | inr m ↦ inr ((spot-has is q l).0 m)
          ]))),
        )

        placed : (x : Pair) → Has x (put_in pair_before (interface, number) pairs) → x.1 ≡ number → (q : ℕ) × (q < length interfaces) × (get_or interfaces q 0 ≡ x.0)
        placed x h e = elim ((has-put_in pair_laws (interface, number) x pairs).0 h) [
          | inl q ↦ (place, is.within, is.here ∙ sym (ap (λ (z : Pair). z.0) q))
          | inr m ↦ at-of x m
        ]

        others : (x : Pair) → (x.1 ≡ number → ⊥) → Has x pairs ↔ Has x (put_in pair_before (interface, number) pairs)
        others x n = (
          (λ h. (has-put_in pair_laws (interface, number) x pairs).1 (inr h)),
          (λ h. elim ((has-put_in pair_laws (interface, number) x pairs).0 h) [
            | inl q ↦ absurd (n (ap (λ (z : Pair). z.1) q))
            | inr m ↦ m
          ]),
        )

  -- a place taken out of the row
  module _ (new : Numbers) (wide : new.width ≡ column.width) (members : new.members ≡ minus nat_lt column.members (place ∷ [])) where
    pub take-column : IsSet new
    take-column = record {
      rising = subst (IsRising nat_lt) (sym members) (rising-minus nat_laws column.members (place ∷ []) (column-set is).0.rising);
      within = λ k h. (let l = (column-set is).0.within k ((minus-iff nat_laws k column.members (place ∷ [])).0 (subst (Has k) members h)).0 in omega (arith, l, wide));
      fits = omega (arith, (column-set is).0.fits, wide);
    }

    pub take-columns : AreColumns width interfaces (set columns number new)
    take-columns = columns-with is new take-column (wide ∙ (column-set is).1)

    pub take-installed : pairs_of interfaces (rows_from 0 interfaces (set columns number new)) ≡ minus pair_before (pairs_of interfaces (rows_from 0 interfaces columns)) ((interface, number) ∷ [])
    take-installed = now-are new take-column (wide ∙ (column-set is).1) (minus pair_before pairs ((interface, number) ∷ [])) (rising-minus pair_laws pairs ((interface, number) ∷ []) (rising is)) mine placed others
      where
        pairs : List Pair
        pairs = pairs_of interfaces (rows_from 0 interfaces columns)

        mine : (q : ℕ) → q < length interfaces → Has q new.members ↔ Has (get_or interfaces q 0, number) (minus pair_before pairs ((interface, number) ∷ []))
        mine q l = (
          (λ h. (
              let r = (minus-iff nat_laws q column.members (place ∷ [])).0 (subst (Has q) members h) in
              (minus-iff pair_laws (get_or interfaces q 0, number) pairs ((interface, number) ∷ [])).1 ((spot-has is q l).1 r.0, λ m. elim m [ inl e ↦ r.1 (inl (one-place interfaces is.kept.rising q place l is.within (ap (λ (z : Pair). z.0) e ∙ sym is.here))) | inr z ↦ z ]))),
          (λ h. (
              let r = (minus-iff pair_laws (get_or interfaces q 0, number) pairs ((interface, number) ∷ [])).0 h in
              subst (Has q) (sym members) ((minus-iff nat_laws q column.members (place ∷ [])).1 ((spot-has is q l).0 r.0, λ m. elim m [ inl e ↦ r.1 (inl (ap (λ (k : ℕ). (get_or interfaces k 0, number)) e ∙ ap (λ (k : ℕ). (k, number)) is.here)) | inr z ↦ z ])))),
        )

        placed : (x : Pair) → Has x (minus pair_before pairs ((interface, number) ∷ [])) → x.1 ≡ number → (q : ℕ) × (q < length interfaces) × (get_or interfaces q 0 ≡ x.0)
        placed x h e = at-of x ((minus-iff pair_laws x pairs ((interface, number) ∷ [])).0 h).0

        others : (x : Pair) → (x.1 ≡ number → ⊥) → Has x pairs ↔ Has x (minus pair_before pairs ((interface, number) ∷ []))
        others x n = (
          (λ h. (minus-iff pair_laws x pairs ((interface, number) ∷ [])).1 (h, λ m. elim m [ inl e ↦ n (ap (λ (z : Pair). z.1) e) | inr z ↦ z ])),
          (λ h. ((minus-iff pair_laws x pairs ((interface, number) ∷ [])).0 h).0),
        )
