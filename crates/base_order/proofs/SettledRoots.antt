-- Rows that are settled one number after another end at the roots.
use Rattle.std.proofs.Common.{◌≡◌, ◌≢◌, ◌⊎◌, inl, inr, ℕ, nat_lt, Bool, true, false, not, ◌&&◌, ◌||◌, cond, List, [], ◌∷◌, refl, sym, ap, ap₂, subst, ◌∙◌, arith}
use Rattle.std.proofs.lemmas.Bool.{cases_eq, cases_Bool, false_from_ne_true}
use Rattle.base.specs.Laws.{CoverLaws}
use Rattle.base.specs.Sets.{Has, IsRising, put_in, minus, is_root, roots}
use Rattle.base.proofs.Roots.{filter-iff, roots-iff, covered_by_root}
use Rattle.base.proofs.Sets.{ext, member-iff, has-put_in, minus-iff, rising-minus, rising-roots}
use Rattle.base_bits.specs.Rows.{is_in}
use Rattle.base_bits.proofs.Passing.{nat_laws}
use Rattle.base_order.specs.Order.{Moves, IsSettled}
use Rattle.std.specs.Cmp.{both_ways}

pub in-has : (i : ℕ) (xs : List ℕ) → is_in i xs ≡ true → Has i xs
in-has i xs = (member-iff nat_laws i xs).0

pub has-in : (i : ℕ) (xs : List ℕ) → Has i xs → is_in i xs ≡ true
has-in i xs = (member-iff nat_laws i xs).1

pub out-has : (i : ℕ) (xs : List ℕ) → is_in i xs ≡ false → Has i xs → ⊥
out-has i xs e h = absurd (grind (arith, e, has-in i xs h))

pub has-out : (i : ℕ) (xs : List ℕ) → (Has i xs → ⊥) → is_in i xs ≡ false
has-out i xs n = false_from_ne_true (is_in i xs) (λ e. n (in-has i xs e))

pub put-other : (i k : ℕ) (xs : List ℕ) → k ≢ i → is_in k (put_in nat_lt i xs) ≡ is_in k xs
put-other i k xs n = both_ways (is_in k (put_in nat_lt i xs)) (is_in k xs) to from
  where
    to : is_in k (put_in nat_lt i xs) ≡ true → is_in k xs ≡ true
    to e = elim ((has-put_in nat_laws i k xs).0 (in-has k (put_in nat_lt i xs) e)) [ inl q ↦ absurd (n q) | inr h ↦ has-in k xs h ]

    from : is_in k xs ≡ true → is_in k (put_in nat_lt i xs) ≡ true
    from e = has-in k (put_in nat_lt i xs) ((has-put_in nat_laws i k xs).1 (inr (in-has k xs e)))

pub put-own : (i : ℕ) (xs : List ℕ) → is_in i (put_in nat_lt i xs) ≡ true
put-own i xs = has-in i (put_in nat_lt i xs) ((has-put_in nat_laws i i xs).1 (inl refl))

pub take-other : (i k : ℕ) (xs : List ℕ) → k ≢ i → is_in k (minus nat_lt xs (i ∷ [])) ≡ is_in k xs
take-other i k xs n = both_ways (is_in k (minus nat_lt xs (i ∷ []))) (is_in k xs) to from
  where
    to : is_in k (minus nat_lt xs (i ∷ [])) ≡ true → is_in k xs ≡ true
    to e = has-in k xs ((minus-iff nat_laws k xs (i ∷ [])).0 (in-has k (minus nat_lt xs (i ∷ [])) e)).0

    from : is_in k xs ≡ true → is_in k (minus nat_lt xs (i ∷ [])) ≡ true
    from e = has-in k (minus nat_lt xs (i ∷ [])) ((minus-iff nat_laws k xs (i ∷ [])).1 (in-has k xs e, λ m. elim m [ inl q ↦ n q | inr z ↦ z ]))

pub take-own : (i : ℕ) (xs : List ℕ) → is_in i (minus nat_lt xs (i ∷ [])) ≡ false
take-own i xs = has-out i (minus nat_lt xs (i ∷ [])) (λ h. ((minus-iff nat_laws i xs (i ∷ [])).0 h).1 (inl refl))

pub set-own : (i : ℕ) (holds : Bool) (xs : List ℕ) → is_in i (cond holds (put_in nat_lt i xs) (minus nat_lt xs (i ∷ []))) ≡ holds
set-own i true xs = put-own i xs
set-own i false xs = take-own i xs

set-other : (i k : ℕ) (holds : Bool) (xs : List ℕ) → k ≢ i → is_in k (cond holds (put_in nat_lt i xs) (minus nat_lt xs (i ∷ []))) ≡ is_in k xs
set-other i k true xs n = put-other i k xs n
set-other i k false xs n = take-other i k xs n

put_if-own : (i : ℕ) (holds : Bool) (xs : List ℕ) → is_in i (cond holds (put_in nat_lt i xs) xs) ≡ (is_in i xs || holds)
put_if-own i true xs = put-own i xs ∙ sym (grind arith)
put_if-own i false xs = sym (grind arith)

put_if-other : (i k : ℕ) (holds : Bool) (xs : List ℕ) → k ≢ i → is_in k (cond holds (put_in nat_lt i xs) xs) ≡ is_in k xs
put_if-other i k true xs n = put-other i k xs n
put_if-other i k false xs n = refl

nothing-new : (w x : Bool) → w ≡ (w || (x && not x))
nothing-new true x = refl
nothing-new false true = refl
nothing-new false false = refl

-- one number is settled
pub moves-one : (final : ℕ → Bool) (i : ℕ) (r w a : List ℕ) (is was : Bool) → is ≡ final i → was ≡ is_in i r
    → Moves final r w a (cond is (put_in nat_lt i r) (minus nat_lt r (i ∷ []))) (cond (was && not is) (put_in nat_lt i w) w) (cond (is && not was) (put_in nat_lt i a) a)
moves-one final i r w a is was e f = record { toward = toward; lost = lost; won = won }
  where
    toward : (k : ℕ) → (is_in k (cond is (put_in nat_lt i r) (minus nat_lt r (i ∷ []))) ≡ is_in k r) ⊎ (is_in k (cond is (put_in nat_lt i r) (minus nat_lt r (i ∷ []))) ≡ final k)
    toward k = elim (cases_eq k i) [
      | inl q ↦ inr (subst (λ z. is_in z (cond is (put_in nat_lt i r) (minus nat_lt r (i ∷ []))) ≡ final z) (sym q) (set-own i is r ∙ e))
      | inr n ↦ inl (set-other i k is r n)
    ]

    lost : (k : ℕ) → is_in k (cond (was && not is) (put_in nat_lt i w) w) ≡ (is_in k w || (is_in k r && not (is_in k (cond is (put_in nat_lt i r) (minus nat_lt r (i ∷ []))))))
    lost k = elim (cases_eq k i) [
      | inl q ↦
          subst (λ z. is_in z (cond (was && not is) (put_in nat_lt i w) w) ≡ (is_in z w || (is_in z r && not (is_in z (cond is (put_in nat_lt i r) (minus nat_lt r (i ∷ []))))))) (sym q)
          (put_if-own i (was && not is) w ∙ ap₂ (λ x y. is_in i w || (x && not y)) f (sym (set-own i is r)))
      | inr n ↦ put_if-other i k (was && not is) w n ∙ (nothing-new (is_in k w) (is_in k r) ∙ ap (λ y. is_in k w || (is_in k r && not y)) (sym (set-other i k is r n)))
    ]

    won : (k : ℕ) → is_in k (cond (is && not was) (put_in nat_lt i a) a) ≡ (is_in k a || (is_in k (cond is (put_in nat_lt i r) (minus nat_lt r (i ∷ []))) && not (is_in k r)))
    won k = elim (cases_eq k i) [
      | inl q ↦
          subst (λ z. is_in z (cond (is && not was) (put_in nat_lt i a) a) ≡ (is_in z a || (is_in z (cond is (put_in nat_lt i r) (minus nat_lt r (i ∷ []))) && not (is_in z r)))) (sym q)
          (put_if-own i (is && not was) a ∙ ap₂ (λ x y. is_in i a || (x && not y)) (sym (set-own i is r)) f)
      | inr n ↦ put_if-other i k (is && not was) a n ∙ (nothing-new (is_in k a) (is_in k r) ∙ ap (λ y. is_in k a || (y && not (is_in k r))) (sym (set-other i k is r n)))
    ]

pub moves-at : {final : ℕ → Bool} {r w a x y z x1 y1 z1 : List ℕ} → Moves final r w a x y z → x1 ≡ x → y1 ≡ y → z1 ≡ z → Moves final r w a x1 y1 z1
moves-at {final} {r} {w} {a} {x} {y} {z} {x1} {y1} {z1} m e f h = subst (λ p. Moves final r w a p y1 z1) (sym e) (subst (λ p. Moves final r w a x p z1) (sym f) (subst (λ p. Moves final r w a x y p) (sym h) m))

pub moves-fresh : {final : ℕ → Bool} {r w a x y z : List ℕ} → Moves final r w a x y z → w ≡ [] → a ≡ [] → Moves final r [] [] x y z
moves-fresh {final} {r} {w} {a} {x} {y} {z} m e f = subst (λ p. Moves final r p [] x y z) e (subst (λ p. Moves final r w p x y z) f m)

lost-on : (f r r1 r2 w w1 w2 : Bool) → ((r1 ≡ r) ⊎ (r1 ≡ f)) → ((r2 ≡ r1) ⊎ (r2 ≡ f)) → w1 ≡ (w || (r && not r1)) → w2 ≡ (w1 || (r1 && not r2)) → w2 ≡ (w || (r && not r2))
lost-on f r r1 r2 w w1 w2 p q d e = grind arith

won-on : (f r r1 r2 w w1 w2 : Bool) → ((r1 ≡ r) ⊎ (r1 ≡ f)) → ((r2 ≡ r1) ⊎ (r2 ≡ f)) → w1 ≡ (w || (r1 && not r)) → w2 ≡ (w1 || (r2 && not r1)) → w2 ≡ (w || (r2 && not r))
won-on f r r1 r2 w w1 w2 p q d e = grind arith

on : (f r r1 r2 : Bool) → ((r1 ≡ r) ⊎ (r1 ≡ f)) → ((r2 ≡ r1) ⊎ (r2 ≡ f)) → (r2 ≡ r) ⊎ (r2 ≡ f)
on f r r1 r2 p (inr q) = inr q
on f r r1 r2 (inl p) (inl q) = inl (q ∙ p)
on f r r1 r2 (inr p) (inl q) = inr (q ∙ p)

module _ {final : ℕ → Bool} {r w a r1 w1 a1 r2 w2 a2 : List ℕ} (m : Moves final r w a r1 w1 a1) (n : Moves final r1 w1 a1 r2 w2 a2) where
  pub moves-on : Moves final r w a r2 w2 a2
  moves-on =
      record {
        toward = λ k. on (final k) (is_in k r) (is_in k r1) (is_in k r2) (m.toward k) (n.toward k);
        lost = λ k. lost-on (final k) (is_in k r) (is_in k r1) (is_in k r2) (is_in k w) (is_in k w1) (is_in k w2) (m.toward k) (n.toward k) (m.lost k) (n.lost k);
        won = λ k. won-on (final k) (is_in k r) (is_in k r1) (is_in k r2) (is_in k a) (is_in k a1) (is_in k a2) (m.toward k) (n.toward k) (m.won k) (n.won k);
      }

module _ {final : ℕ → Bool} {r w a r1 w1 a1 : List ℕ} (m : Moves final r w a r1 w1 a1) where
  -- a number that is as it is to be stays so
  pub own-kept : (k : ℕ) → is_in k r ≡ final k → is_in k r1 ≡ final k
  own-kept k e = elim (m.toward k) [ inl q ↦ q ∙ e | inr q ↦ q ]

  pub settled-kept : {cov : ℕ → ℕ → Bool} {need : List ℕ} {c : ℕ} → IsSettled final cov need c r w a → IsSettled final cov need c r1 w1 a1
  settled-kept {cov} {need} {c} s = record { own = own-kept c s.own; lost = lost; won = won }
    where
      same : is_in c r1 ≡ is_in c r
      same = own-kept c s.own ∙ sym s.own

      lost : is_in c w1 ≡ true → (k : ℕ) → cov c k ≡ true → Has k need → final k ≡ true → is_in k r1 ≡ true
      lost e k f h t =
          let was : is_in c w ≡ true = grind (arith, m.lost c, same, e) in
          own-kept k (s.lost was k f h t ∙ sym t) ∙ t

      won : is_in c a1 ≡ true → (k : ℕ) → cov c k ≡ true → final k ≡ false → is_in k r1 ≡ false
      won e k f t =
          let was : is_in c a ≡ true = grind (arith, m.won c, same, e) in
          own-kept k (s.won was k f t ∙ sym t) ∙ t

-- one number, and then what it covers, in two turns
module _ {final : ℕ → Bool} {cov : ℕ → ℕ → Bool} {need : List ℕ} {c : ℕ} {r w a r1 w1 a1 r2 w2 a2 : List ℕ} (own : is_in c r ≡ final c)
    (m : Moves final r w a r1 w1 a1) (n : Moves final r1 w1 a1 r2 w2 a2) where
  pub settled-from : (is_in c w1 ≡ true → (k : ℕ) → cov c k ≡ true → Has k need → final k ≡ true → is_in k r1 ≡ true)
      → (is_in c a2 ≡ true → (k : ℕ) → cov c k ≡ true → final k ≡ false → is_in k r2 ≡ false) → IsSettled final cov need c r2 w2 a2
  settled-from lost won = record { own = own-kept n c here; lost = later; won = won }
    where
      here : is_in c r1 ≡ final c
      here = own-kept m c own

      later : is_in c w2 ≡ true → (k : ℕ) → cov c k ≡ true → Has k need → final k ≡ true → is_in k r2 ≡ true
      later e k f h t =
          let same : is_in c r2 ≡ is_in c r1 = own-kept n c here ∙ sym here in
          let was : is_in c w1 ≡ true = grind (arith, n.lost c, same, e) in
          own-kept n k (lost was k f h t ∙ sym t) ∙ t

module _ (cov : ℕ → ℕ → Bool) (laws : CoverLaws cov nat_lt) (was need gone come old new w a : List ℕ) where
  module _ (before : old ≡ roots cov nat_lt was) (leaves : (k : ℕ) → Has k was → Has k need ⊎ Has k gone) (joins : (k : ℕ) → Has k need → Has k was ⊎ Has k come)
      (m : Moves (λ k. is_in k need && is_root cov nat_lt need k) old [] [] new w a)
      (went : (c : ℕ) → Has c gone → IsSettled (λ k. is_in k need && is_root cov nat_lt need k) cov need c new w a)
      (came : (c : ℕ) → Has c come → IsSettled (λ k. is_in k need && is_root cov nat_lt need k) cov need c new w a) where
    root-final : (k : ℕ) → Has k (roots cov nat_lt need) → (is_in k need && is_root cov nat_lt need k) ≡ true
    root-final k h = let r = (filter-iff (is_root cov nat_lt need) k need).0 h in rw (has-in k need r.0, r.1) refl

    final-root : (k : ℕ) → (is_in k need && is_root cov nat_lt need k) ≡ true → Has k (roots cov nat_lt need)
    final-root k e =
        let a : is_in k need ≡ true = grind (arith, e) in
        let b : is_root cov nat_lt need k ≡ true = grind (arith, e) in
        (filter-iff (is_root cov nat_lt need) k need).1 (in-has k need a, b)

    old-root : (k : ℕ) → is_in k old ≡ true → Has k (roots cov nat_lt was)
    old-root k e = subst (Has k) before (in-has k old e)

    root-old : (k : ℕ) → Has k (roots cov nat_lt was) → is_in k old ≡ true
    root-old k h = has-in k old (subst (Has k) (sym before) h)

    -- roots of either set that cover one another are one
    same-root : (s t : List ℕ) (j k : ℕ) → Has j (roots cov nat_lt s) → Has k (roots cov nat_lt t) → Has k s → Has j t → cov j k ≡ true → j ≡ k
    same-root s t j k g h ks jt e =
        let x = (roots-iff cov nat_lt t k).0 h in
        let y = (roots-iff cov nat_lt s j).0 g in
        let d = x.1 j jt e in
        laws.total j k d.1 (y.1 k ks d.0).1

    left : (k : ℕ) → Has k was → is_in k need ≡ false → Has k gone
    left k h e = elim (leaves k h) [ inl n ↦ absurd (out-has k need e n) | inr g ↦ g ]

    out-final : (k : ℕ) → is_in k need ≡ false → (is_in k need && is_root cov nat_lt need k) ≡ false
    out-final k e = rw e refl

    -- a root that left or came settles what it covers
    told-lost : (c : ℕ) → IsSettled (λ k. is_in k need && is_root cov nat_lt need k) cov need c new w a → is_in c old ≡ true → (is_in c need && is_root cov nat_lt need c) ≡ false → is_in c w ≡ true
    told-lost c s e f = let o : is_in c new ≡ false = s.own ∙ f in grind (arith, m.lost c, e, o)

    told-won : (c : ℕ) → IsSettled (λ k. is_in k need && is_root cov nat_lt need k) cov need c new w a → is_in c old ≡ false → (is_in c need && is_root cov nat_lt need c) ≡ true → is_in c a ≡ true
    told-won c s e f = let o : is_in c new ≡ true = s.own ∙ f in grind (arith, m.won c, e, o)

    fallen : (k : ℕ) → is_in k old ≡ true → (is_in k need && is_root cov nat_lt need k) ≡ false → is_in k new ≡ (is_in k need && is_root cov nat_lt need k)
    fallen k e f = elim (cases_Bool (is_in k need)) [
      | inr n ↦ (went k (left k ((roots-iff cov nat_lt was k).0 (old-root k e)).0 n)).own
      | inl n ↦
          let kn = in-has k need n in
          let top = covered_by_root laws need k kn in
          let r = top.0 in
          let rn = ((roots-iff cov nat_lt need r).0 top.1).0 in
          elim (cases_Bool (is_in r old)) [
            | inl o ↦
                let q = same-root need was r k top.1 (old-root k e) kn ((roots-iff cov nat_lt was r).0 (old-root r o)).0 top.2 in
                absurd (grind (arith, f, root-final k (subst (λ z. Has z (roots cov nat_lt need)) q top.1)))
            | inr o ↦ elim (joins r rn) [
              | inr c ↦ (came r c).won (told-won r (came r c) o (root-final r top.1)) k top.2 f ∙ sym f
              | inl h ↦
                  let q = same-root need was r k top.1 (old-root k e) kn h top.2 in
                  absurd (grind (arith, f, root-final k (subst (λ z. Has z (roots cov nat_lt need)) q top.1)))
            ]
          ]
    ]

    risen : (k : ℕ) → is_in k old ≡ false → (is_in k need && is_root cov nat_lt need k) ≡ true → is_in k new ≡ (is_in k need && is_root cov nat_lt need k)
    risen k e f =
        let kr = final-root k f in
        let kn = ((roots-iff cov nat_lt need k).0 kr).0 in
        elim (joins k kn) [
          | inr c ↦ (came k c).own
          | inl h ↦
              let top = covered_by_root laws was k h in
              let r = top.0 in
              let rw_ = ((roots-iff cov nat_lt was r).0 top.1).0 in
              elim (cases_Bool (is_in r need)) [
                | inl n ↦
                    let q = same-root was need r k top.1 kr h (in-has r need n) top.2 in
                    absurd (grind (arith, e, root-old k (subst (λ z. Has z (roots cov nat_lt was)) q top.1)))
                | inr n ↦
                    let g = left r rw_ n in
                    (went r g).lost (told-lost r (went r g) (root-old r top.1) (out-final r n)) k top.2 kn f ∙ sym f
              ]
        ]

    pub ends : (k : ℕ) → is_in k new ≡ (is_in k need && is_root cov nat_lt need k)
    ends k = elim (m.toward k) [
      | inr q ↦ q
      | inl q ↦ elim (cases_Bool (is_in k old)) [
        | inl o ↦ elim (cases_Bool (is_in k need && is_root cov nat_lt need k)) [ inl f ↦ q ∙ (o ∙ sym f) | inr f ↦ fallen k o f ]
        | inr o ↦ elim (cases_Bool (is_in k need && is_root cov nat_lt need k)) [ inl f ↦ risen k o f | inr f ↦ q ∙ (o ∙ sym f) ]
      ]
    ]

    pub ends-roots : IsRising nat_lt need → IsRising nat_lt new → new ≡ roots cov nat_lt need
    ends-roots rn rs =
        ext nat_laws new (roots cov nat_lt need) rs (rising-roots laws need rn) (λ k h. final-root k (sym (ends k) ∙ has-in k new h)) (λ k h. in-has k new (ends k ∙ root-final k h))

    pub ends-withdrawn : IsRising nat_lt old → IsRising nat_lt w → w ≡ minus nat_lt old new
    ends-withdrawn ro rs = ext nat_laws w (minus nat_lt old new) rs (rising-minus nat_laws old new ro) to from
      where
        to : (k : ℕ) → Has k w → Has k (minus nat_lt old new)
        to k h =
            let e = sym (m.lost k) ∙ has-in k w h in
            let x : is_in k old ≡ true = grind (arith, e) in
            let y : is_in k new ≡ false = grind (arith, e) in
            (minus-iff nat_laws k old new).1 (in-has k old x, out-has k new y)

        from : (k : ℕ) → Has k (minus nat_lt old new) → Has k w
        from k h =
            let r = (minus-iff nat_laws k old new).0 h in
            in-has k w (grind (arith, m.lost k, has-in k old r.0, has-out k new r.1))

    pub ends-added : IsRising nat_lt new → IsRising nat_lt a → a ≡ minus nat_lt new old
    ends-added rn rs = ext nat_laws a (minus nat_lt new old) rs (rising-minus nat_laws new old rn) to from
      where
        to : (k : ℕ) → Has k a → Has k (minus nat_lt new old)
        to k h =
            let e = sym (m.won k) ∙ has-in k a h in
            let x : is_in k new ≡ true = grind (arith, e) in
            let y : is_in k old ≡ false = grind (arith, e) in
            (minus-iff nat_laws k new old).1 (in-has k new x, out-has k old y)

        from : (k : ℕ) → Has k (minus nat_lt new old) → Has k a
        from k h =
            let r = (minus-iff nat_laws k new old).0 h in
            in-has k a (grind (arith, m.won k, has-in k new r.0, has-out k old r.1))
