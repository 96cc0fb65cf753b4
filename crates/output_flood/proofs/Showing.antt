-- Rows and pairs while what they have goes from old numbers to new ones.
use Rattle.std.proofs.Common.{◌≡◌, ℕ, ◌+◌, ◌<◌, ◌≤◌, Bool, true, false, cond, not, ◌&&◌, nat_lt, ◌⊎◌, ◌↔◌, inl, inr, List, [], ◌∷◌, filter, refl, sym, ap, subst, ◌∙◌, arith}
use Rattle.std.proofs.lemmas.Bool.{cases_order}
use Rattle.std.proofs.lemmas.Bool.Decides.{nat_tests}
use Rattle.base.specs.Sets.{Has, IsRising, member, put_in, minus}
use Rattle.base.proofs.Roots.{Has-filter, filter-Has}
use Rattle.base.proofs.Sets.{ext, rising-filter, has-put_in, has-minus, minus-has, has-member, member-has}
use Rattle.base_bits.proofs.Passing.{nat_laws}
use Rattle.match_routes.specs.Installed.{Pair, pair_before}
use Rattle.match_routes.proofs.Pairs.{pair_laws}
use Rattle.output_flood.specs.Tables.{IsBrought}

-- what is not covered, of the numbers below a place
abbrev pub left_below : (ℕ → Bool) → ℕ → List ℕ → List ℕ
left_below covered at xs = filter (λ j. not (nat_lt j at && covered j)) xs

test_on : (covered : ℕ → Bool) (at k j : ℕ) → at ≤ k → not (nat_lt j (k + 1) && covered j) ≡ true → not (nat_lt j at && covered j) ≡ true
test_on covered at k j l e = grind (arith, nat_tests)

test_off : (covered : ℕ → Bool) (at k j : ℕ) → at ≤ k → not (nat_lt j at && covered j) ≡ true → (at ≤ j → k ≤ j) → (j ≡ k → covered j ≡ false) → not (nat_lt j (k + 1) && covered j) ≡ true
test_off covered at k j l e least same = go (covered j) (nat_lt j at) refl refl
  where
    go : (c b : Bool) → covered j ≡ c → nat_lt j at ≡ b → not (nat_lt j (k + 1) && covered j) ≡ true
    go false b p q = rw p (none (nat_lt j (k + 1)))
      where
        none : (z : Bool) → not (z && false) ≡ true
        none true = refl
        none false = refl
    go true true p q = absurd (clash (rw (p, q) at e))
      where
        clash : not (true && true) ≡ true → ⊥
        clash h = cc
    go true false p q = elim (cases_order j k) [
      | inl s ↦ (let z = same s in absurd cc)
      | inr r ↦ elim r [
        | inl less ↦ (let above : at ≤ j = grind (arith, nat_tests, q) in let m = least above in absurd (omega (arith, m, less)))
        | inr more ↦ (let past : nat_lt j (k + 1) ≡ false = grind (arith, nat_tests, more) in rw past refl)
      ]
    ]

pub left_first : (covered : ℕ → Bool) (xs : List ℕ) → xs ≡ left_below covered 0 xs
left_first covered [] = refl
left_first covered (x ∷ xs) = go (nat_lt x 0) (grind (arith, nat_tests)) (left_first covered xs)
  where
    go : (b : Bool) → b ≡ false → xs ≡ left_below covered 0 xs → x ∷ xs ≡ cond (not (b && covered x)) (x ∷ left_below covered 0 xs) (left_below covered 0 xs)
    go false e ih = ap (λ z. x ∷ z) ih
    go true e ih = absurd cc

module _ (covered : ℕ → Bool) (init : List ℕ) (rising : IsRising nat_lt init) where
  pub left_next : (at k : ℕ) (now new : List ℕ) (holds : Bool) → now ≡ left_below covered at init → at ≤ k → Has k now → ((j : ℕ) → at ≤ j → Has j now → k ≤ j) → holds ≡ covered k
      → new ≡ cond holds (minus nat_lt now (k ∷ [])) now → new ≡ left_below covered (k + 1) init
  left_next at k now new holds is l has least same e =
      ext nat_laws new (left_below covered (k + 1) init) (subst (IsRising nat_lt) (sym e) (kept_rising holds)) (rising-filter nat_laws (λ j. not (nat_lt j (k + 1) && covered j)) init rising) to from
    where
      now_rising : IsRising nat_lt now
      now_rising = subst (IsRising nat_lt) (sym is) (rising-filter nat_laws (λ j. not (nat_lt j at && covered j)) init rising)

      kept_rising : (b : Bool) → IsRising nat_lt (cond b (minus nat_lt now (k ∷ [])) now)
      kept_rising true = rising-filter nat_laws (λ x. not (member nat_lt x (k ∷ []))) now now_rising
      kept_rising false = now_rising

      parts : (b : Bool) → b ≡ covered k → (j : ℕ) → Has j (cond b (minus nat_lt now (k ∷ [])) now) → Has j now × (j ≡ k → covered j ≡ false)
      parts true q j h = let r = has-minus nat_laws j now (k ∷ []) h in (r.0, λ s. absurd (clash s r.1))
        where
          clash : j ≡ k → member nat_lt j (k ∷ []) ≡ false → ⊥
          clash s m = let t = has-member nat_laws j (k ∷ []) (inl s) in absurd cc
      parts false q j h = (h, λ s. ap covered s ∙ sym q)

      to : (j : ℕ) → Has j new → Has j (left_below covered (k + 1) init)
      to j h =
          let p = parts holds same j (subst (Has j) e h) in
          let r = filter-Has (λ i. not (nat_lt i at && covered i)) j init (subst (Has j) is p.0) in
          Has-filter (λ i. not (nat_lt i (k + 1) && covered i)) j init r.0 (test_off covered at k j l r.1 (λ a. least j a p.0) p.1)

      back : (b : Bool) → b ≡ covered k → (j : ℕ) → Has j now → not (nat_lt j (k + 1) && covered j) ≡ true → Has j (cond b (minus nat_lt now (k ∷ [])) now)
      back true q j h t = minus-has nat_laws j now (k ∷ []) h (go (member nat_lt j (k ∷ [])) refl)
        where
          go : (m : Bool) → member nat_lt j (k ∷ []) ≡ m → m ≡ false
          go false w = refl
          go true w = elim (member-has nat_laws j (k ∷ []) w) [
            | inl s ↦ absurd (clash (subst (λ z. not (nat_lt z (k + 1) && covered z) ≡ true) s t))
            | inr z ↦ absurd z
          ]
            where
              clash : not (nat_lt k (k + 1) && covered k) ≡ true → ⊥
              clash u = let z : nat_lt k (k + 1) ≡ true = grind (arith, nat_tests) in absurd (no (rw (z, sym q) at u))
                where
                  no : not (true && true) ≡ true → ⊥
                  no v = cc
      back false q j h t = h

      from : (j : ℕ) → Has j (left_below covered (k + 1) init) → Has j new
      from j h =
          let r = filter-Has (λ i. not (nat_lt i (k + 1) && covered i)) j init h in
          subst (Has j) (sym e) (back holds same j
          (subst (Has j) (sym is) (Has-filter (λ i. not (nat_lt i at && covered i)) j init r.0 (test_on covered at k j l r.1))) r.1)

  pub left_all : (at : ℕ) (now : List ℕ) → now ≡ left_below covered at init → ((j : ℕ) → Has j now → j < at) → now ≡ filter (λ j. not (covered j)) init
  left_all at now is below =
      ext nat_laws now (filter (λ j. not (covered j)) init) (subst (IsRising nat_lt) (sym is) (rising-filter nat_laws (λ j. not (nat_lt j at && covered j)) init rising))
      (rising-filter nat_laws (λ j. not (covered j)) init rising)
      (λ j h.
      let r = filter-Has (λ i. not (nat_lt i at && covered i)) j init (subst (Has j) is h) in
      let z : nat_lt j at ≡ true = grind (arith, nat_tests, below j h) in
      Has-filter (λ i. not (covered i)) j init r.0 (rw z at r.1))
      (λ j h.
      let r = filter-Has (λ i. not (covered i)) j init h in
      subst (Has j) (sym is) (Has-filter (λ i. not (nat_lt i at && covered i)) j init r.0 (anyway (nat_lt j at) (covered j) r.1)))
    where
      anyway : (b c : Bool) → not c ≡ true → not (b && c) ≡ true
      anyway true c e = e
      anyway false c e = refl

pub left_within : (covered : ℕ → Bool) (init : List ℕ) (at : ℕ) (now : List ℕ) → now ≡ left_below covered at init → (k : ℕ) → Has k now → Has k init
left_within covered init at now is k h = (filter-Has (λ i. not (nat_lt i at && covered i)) k init (subst (Has k) is h)).0

-- what goes
pub gone_next : (place at i : ℕ) (members : List ℕ) (init old new : List Pair) → Has i members → at ≤ i → ((k : ℕ) → at ≤ k → Has k members → i ≤ k)
    → ((x : Pair) → Has x old ↔ (Has x init × (x.0 ≡ place → Has x.1 members → x.1 < at → ⊥))) → new ≡ minus pair_before old ((place, i) ∷ [])
    → (x : Pair) → Has x new ↔ (Has x init × (x.0 ≡ place → Has x.1 members → x.1 < i + 1 → ⊥))
gone_next place at i members init old new has l least before e x = (to, from)
  where
    to : Has x new → Has x init × (x.0 ≡ place → Has x.1 members → x.1 < i + 1 → ⊥)
    to h =
        let r = has-minus pair_laws x old ((place, i) ∷ []) (subst (Has x) e h) in
        let b = (before x).0 r.0 in (
          b.0,
          λ p m k. elim (cases_order x.1 i) [
            | inl s ↦ clash (has-member pair_laws x ((place, i) ∷ []) (inl (same x place i p s))) r.1
            | inr z ↦ elim z [
              | inl less ↦ elim (cases_order x.1 at) [
                | inl s ↦ (let n = least x.1 (omega (arith, s)) m in absurd (omega (arith, n, less)))
                | inr w ↦ elim w [ inl under ↦ b.1 p m under | inr over ↦ (let n = least x.1 (omega (arith, over)) m in absurd (omega (arith, n, less))) ]
              ]
              | inr more ↦ absurd (omega (arith, k, more))
            ]
          ],
        )
      where
        same : (x : Pair) (p q : ℕ) → x.0 ≡ p → x.1 ≡ q → x ≡ (p, q)
        same x p q a b j = (a j, b j)

        clash : {b : Bool} → b ≡ true → b ≡ false → ⊥
        clash p q = let r : true ≡ false = sym p ∙ q in absurd cc

    from : Has x init × (x.0 ≡ place → Has x.1 members → x.1 < i + 1 → ⊥) → Has x new
    from h =
        let o : Has x old = (before x).1 (h.0, λ p m k. h.1 p m (omega (arith, k, l))) in
        subst (Has x) (sym e) (minus-has pair_laws x old ((place, i) ∷ []) o (go (member pair_before x ((place, i) ∷ [])) refl))
      where
        go : (b : Bool) → member pair_before x ((place, i) ∷ []) ≡ b → b ≡ false
        go false q = refl
        go true q = elim (member-has pair_laws x ((place, i) ∷ []) q) [
          | inl s ↦ absurd (h.1 (ap (λ (z : Pair). z.0) s) (subst (λ z. Has z members) (sym (ap (λ (z : Pair). z.1) s)) has) (let t : x.1 ≡ i = ap (λ (z : Pair). z.1) s in omega (arith, t)))
          | inr z ↦ absurd z
        ]

pub gone_first : (place : ℕ) (members : List ℕ) (init : List Pair) (x : Pair) → Has x init ↔ (Has x init × (x.0 ≡ place → Has x.1 members → x.1 < 0 → ⊥))
gone_first place members init x = ((λ h. (h, λ p m k. absurd (omega (arith, k)))), (λ h. h.0))

pub gone_all : (place at : ℕ) (members : List ℕ) (init now : List Pair) → ((k : ℕ) → Has k members → k < at)
    → ((x : Pair) → Has x now ↔ (Has x init × (x.0 ≡ place → Has x.1 members → x.1 < at → ⊥))) → (x : Pair) → Has x now ↔ (Has x init × (x.0 ≡ place → Has x.1 members → ⊥))
gone_all place at members init now below before x = (
  (λ h. let r = (before x).0 h in (r.0, λ p m. r.1 p m (below x.1 m))),
  (λ h. (before x).1 (h.0, λ p m k. h.1 p m)),
)

-- what comes
pub come_next : (place at i : ℕ) (members : List ℕ) (init old new : List Pair) → Has i members → at ≤ i → ((k : ℕ) → at ≤ k → Has k members → i ≤ k)
    → ((x : Pair) → Has x old ↔ (Has x init ⊎ ((x.0 ≡ place) × Has x.1 members × (x.1 < at)))) → new ≡ put_in pair_before (place, i) old
    → (x : Pair) → Has x new ↔ (Has x init ⊎ ((x.0 ≡ place) × Has x.1 members × (x.1 < i + 1)))
come_next place at i members init old new has l least before e x = (to, from)
  where
    same : (x : Pair) (p q : ℕ) → x.0 ≡ p → x.1 ≡ q → x ≡ (p, q)
    same x p q a b j = (a j, b j)

    to : Has x new → Has x init ⊎ ((x.0 ≡ place) × Has x.1 members × (x.1 < i + 1))
    to h = elim ((has-put_in pair_laws (place, i) x old).0 (subst (Has x) e h)) [
      | inl s ↦ inr (ap (λ (z : Pair). z.0) s, subst (λ z. Has z members) (sym (ap (λ (z : Pair). z.1) s)) has, (let t : x.1 ≡ i = ap (λ (z : Pair). z.1) s in omega (arith, t)))
      | inr o ↦ elim ((before x).0 o) [ inl a ↦ inl a | inr b ↦ inr (b.0, b.1, omega (arith, b.2, l)) ]
    ]

    from : Has x init ⊎ ((x.0 ≡ place) × Has x.1 members × (x.1 < i + 1)) → Has x new
    from (inl a) = subst (Has x) (sym e) ((has-put_in pair_laws (place, i) x old).1 (inr ((before x).1 (inl a))))
    from (inr b) = subst (Has x) (sym e) (elim (cases_order x.1 i) [
      | inl s ↦ (has-put_in pair_laws (place, i) x old).1 (inl (same x place i b.0 s))
      | inr z ↦ elim z [
        | inl less ↦ (has-put_in pair_laws (place, i) x old).1 (inr ((before x).1 (inr (b.0, b.1, under less))))
        | inr more ↦ absurd (omega (arith, b.2, more))
      ]
    ])
      where
        under : x.1 < i → x.1 < at
        under less = elim (cases_order x.1 at) [
          | inl s ↦ (let n = least x.1 (omega (arith, s)) b.1 in absurd (omega (arith, n, less)))
          | inr w ↦ elim w [ inl u ↦ u | inr over ↦ (let n = least x.1 (omega (arith, over)) b.1 in absurd (omega (arith, n, less))) ]
        ]

pub come_first : (place : ℕ) (members : List ℕ) (init : List Pair) (x : Pair) → Has x init ↔ (Has x init ⊎ ((x.0 ≡ place) × Has x.1 members × (x.1 < 0)))
come_first place members init x = ((λ h. inl h), (λ h. elim h [ inl a ↦ a | inr b ↦ absurd (omega (arith, b.2)) ]))

pub come_all : (place at : ℕ) (members : List ℕ) (init now : List Pair) → ((k : ℕ) → Has k members → k < at)
    → ((x : Pair) → Has x now ↔ (Has x init ⊎ ((x.0 ≡ place) × Has x.1 members × (x.1 < at)))) → (x : Pair) → Has x now ↔ (Has x init ⊎ ((x.0 ≡ place) × Has x.1 members))
come_all place at members init now below before x = (
  (λ h. elim ((before x).0 h) [ inl a ↦ inl a | inr b ↦ inr (b.0, b.1) ]),
  (λ h. (before x).1 (elim h [ inl a ↦ inl a | inr b ↦ inr (b.0, b.1, below x.1 b.1) ])),
)

-- old numbers go, and new ones come
pub brought_by : (place : ℕ) (old new gone come : List ℕ) (init some now : List Pair) → gone ≡ minus nat_lt old new → come ≡ minus nat_lt new old
    → ((i : ℕ) → Has (place, i) init ↔ Has i old) → ((x : Pair) → Has x some ↔ (Has x init × (x.0 ≡ place → Has x.1 gone → ⊥)))
    → ((x : Pair) → Has x now ↔ (Has x some ⊎ ((x.0 ≡ place) × Has x.1 come))) → IsBrought place new init now
brought_by place old new gone come init some now g d shown a b = record {
  shows = λ i. (to i, from i);
  others = λ x n. (
    (λ h. elim ((b x).0 h) [ inl s ↦ ((a x).0 s).0 | inr p ↦ absurd (n p.0) ]),
    (λ h. (b x).1 (inl ((a x).1 (h, λ p m. n p)))),
  );
}
  where
    in_new : (i : ℕ) → Has i old → (Has i gone → ⊥) → Has i new
    in_new i h n = go (member nat_lt i new) refl
      where
        go : (m : Bool) → member nat_lt i new ≡ m → Has i new
        go true e = member-has nat_laws i new e
        go false e = absurd (n (subst (Has i) (sym g) (minus-has nat_laws i old new h e)))

    to : (i : ℕ) → Has (place, i) now → Has i new
    to i h = elim ((b (place, i)).0 h) [
      | inl s ↦ (let r = (a (place, i)).0 s in in_new i ((shown i).0 r.0) (r.1 refl))
      | inr p ↦ (has-minus nat_laws i new old (subst (Has i) d p.1)).0
    ]

    from : (i : ℕ) → Has i new → Has (place, i) now
    from i h = go (member nat_lt i old) refl
      where
        go : (m : Bool) → member nat_lt i old ≡ m → Has (place, i) now
        go true e = (b (place, i)).1 (inl ((a (place, i)).1 ((shown i).1 (member-has nat_laws i old e), λ p m. stays (subst (Has i) g m))))
          where
            stays : Has i (minus nat_lt old new) → ⊥
            stays m = clash (has-member nat_laws i new h) (has-minus nat_laws i old new m).1
              where
                clash : {c : Bool} → c ≡ true → c ≡ false → ⊥
                clash p q = let r : true ≡ false = sym p ∙ q in absurd cc
        go false e = (b (place, i)).1 (inr (refl, subst (Has i) (sym d) (minus-has nat_laws i new old h e)))
