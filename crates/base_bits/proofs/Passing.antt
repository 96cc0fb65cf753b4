-- The numbers below one that pass a test are a set, and any set with the same members is that list.
use Rattle.std.proofs.Common.{◌≡◌, ◌⊎◌, inl, inr, ℕ, zero, suc, ◌+◌, ◌<◌, add-one, nat_le, nat_lt, Bool, true, false, cond, List, [], ◌∷◌, ◌++◌, refl, sym, ap, subst, ◌∙◌, arith}
use Rattle.std.proofs.lemmas.Bool.{cases_eq, cases_Bool}
use Rattle.std.proofs.lemmas.Bool.Decides.{nat_tests}
use Rattle.base.specs.Laws.{CoverLaws}
use Rattle.base.specs.Sets.{Has, member, put_in, minus, IsRising}
use Rattle.base.proofs.Sets.{ext, member-iff, has-put_in, rising-put_in, minus-iff, rising-minus}
use Rattle.base_bits.specs.Words.{passing}

pub nat_laws : CoverLaws nat_le nat_lt
nat_laws = record {
  reflexive = λ x. grind (arith, nat_tests);
  transitive = λ x y z e f. grind (arith, nat_tests);
  irreflexive = λ x. grind (arith, nat_tests);
  chain = λ x y z e f. grind (arith, nat_tests);
  total = λ x y e f. grind (arith, nat_tests);
}

pub has-push : {T : Type 0} (x y : T) (xs : List T) → Has x (xs ++ y ∷ []) → Has x xs ⊎ (x ≡ y)
has-push x y [] (inl q) = inr q
has-push x y [] (inr h) = absurd h
has-push x y (z ∷ zs) (inl q) = inl (inl q)
has-push x y (z ∷ zs) (inr h) = elim (has-push x y zs h) [ inl m ↦ inl (inr m) | inr q ↦ inr q ]

pub push-old : {T : Type 0} (x y : T) (xs : List T) → Has x xs → Has x (xs ++ y ∷ [])
push-old x y [] h = absurd h
push-old x y (z ∷ zs) (inl q) = inl q
push-old x y (z ∷ zs) (inr h) = inr (push-old x y zs h)

pub push-new : {T : Type 0} (x : T) (xs : List T) → Has x (xs ++ x ∷ [])
push-new x [] = inl refl
push-new x (z ∷ zs) = inr (push-new x zs)

pub rising-push : (n : ℕ) (xs : List ℕ) → IsRising nat_lt xs → ((i : ℕ) → Has i xs → i < n) → IsRising nat_lt (xs ++ n ∷ [])
rising-push n [] r b = ((λ y h. absurd h), tt)
rising-push n (x ∷ xs) r b = (first, rising-push n xs r.1 (λ i h. b i (inr h)))
  where
    first : (y : ℕ) → Has y (xs ++ n ∷ []) → nat_lt x y ≡ true
    first y h = elim (has-push y n xs h) [
      | inl m ↦ r.0 y m
      | inr q ↦ let l = b x (inl refl) in subst (λ z. nat_lt x z ≡ true) (sym q) (grind (arith, nat_tests))
    ]

module _ (test : ℕ → Bool) where
  pub has-passing : (n i : ℕ) → Has i (passing test n) → (i < n) × (test i ≡ true)
  has-passing zero i h = absurd h
  has-passing (suc n) i h = go (test n) refl h (has-passing n i)
    where
      go : (b : Bool) → test n ≡ b → Has i (cond b (passing test n ++ n ∷ []) (passing test n)) → (Has i (passing test n) → (i < n) × (test i ≡ true)) → (i < suc n) × (test i ≡ true)
      go true e h ih = elim (has-push i n (passing test n) h) [
        | inl m ↦ let r = ih m in (omega (arith, r.0), r.1)
        | inr q ↦ (omega arith, ap test q ∙ e)
      ]
      go false e h ih = let r = ih h in (omega (arith, r.0), r.1)

  pub passing-has : (n i : ℕ) → i < n → test i ≡ true → Has i (passing test n)
  passing-has zero i l e = absurd (omega arith)
  passing-has (suc n) i l e = go (test n) refl (λ m. passing-has n i m e) (cases_eq i n)
    where
      go : (b : Bool) → test n ≡ b → (i < n → Has i (passing test n)) → ((i ≡ n) ⊎ (i ≡ n → ⊥)) → Has i (cond b (passing test n ++ n ∷ []) (passing test n))
      go true f ih (inl q) = subst (λ z. Has i (passing test n ++ z ∷ [])) q (push-new i (passing test n))
      go true f ih (inr d) = push-old i n (passing test n) (ih (omega arith))
      go false f ih (inl q) = absurd (grind (arith, sym e ∙ (ap test q ∙ f)))
      go false f ih (inr d) = ih (omega arith)

  pub rising-passing : (n : ℕ) → IsRising nat_lt (passing test n)
  rising-passing zero = tt
  rising-passing (suc n) = go (test n) (rising-passing n)
    where
      go : (b : Bool) → IsRising nat_lt (passing test n) → IsRising nat_lt (cond b (passing test n ++ n ∷ []) (passing test n))
      go true r = rising-push n (passing test n) r (λ i h. (has-passing n i h).0)
      go false r = r

  -- what no number from n on passes
  pub passing-is : (n : ℕ) (xs : List ℕ) → IsRising nat_lt xs → ((i : ℕ) → test i ≡ true → Has i xs) → ((i : ℕ) → Has i xs → (i < n) × (test i ≡ true)) → passing test n ≡ xs
  passing-is n xs r to from = ext nat_laws (passing test n) xs (rising-passing n) r (λ i h. to i (has-passing n i h).1) (λ i h. let p = from i h in passing-has n i p.0 p.1)

-- a number above all others is put in at the end
pub put-last : (n : ℕ) (xs : List ℕ) → ((i : ℕ) → Has i xs → i < n) → put_in nat_lt n xs ≡ xs ++ n ∷ []
put-last n [] b = refl
put-last n (y ∷ ys) b =
    let l = b y (inl refl) in
    let p : nat_lt n y ≡ false = grind (arith, nat_tests) in
    let q : nat_lt y n ≡ true = grind (arith, nat_tests) in
    rw (p, q) (ap (λ zs. y ∷ zs) (put-last n ys (λ i h. b i (inr h))))

module _ (test : ℕ → Bool) where
  -- one number more, as at a step of a loop
  pub passing-put : (n : ℕ) → test n ≡ true → put_in nat_lt n (passing test n) ≡ passing test (n + 1)
  passing-put n e = put-last n (passing test n) (λ i h. (has-passing test n i h).0) ∙ sym (rw (add-one, e) refl)

  pub passing-skip : (n : ℕ) → test n ≡ false → passing test n ≡ passing test (n + 1)
  passing-skip n e = sym (rw (add-one, e) refl)

  pub is_in-passing : (n i : ℕ) → i < n → member nat_lt i (passing test n) ≡ test i
  is_in-passing n i l = go (member nat_lt i (passing test n)) refl
    where
      go : (b : Bool) → member nat_lt i (passing test n) ≡ b → b ≡ test i
      go true e = sym (has-passing test n i ((member-iff nat_laws i (passing test n)).0 e)).1
      go false e = elim (cases_Bool (test i)) [
        | inl t ↦ absurd (grind (arith, e, (member-iff nat_laws i (passing test n)).1 (passing-has test n i l t)))
        | inr f ↦ sym f
      ]

  -- the same where a test tells whether the number is put in
  pub passing-step : (n : ℕ) (holds : Bool) (xs : List ℕ) → xs ≡ passing test n → holds ≡ test n → cond holds (put_in nat_lt n xs) xs ≡ passing test (n + 1)
  passing-step n true xs p e = ap (put_in nat_lt n) p ∙ passing-put n (sym e)
  passing-step n false xs p e = p ∙ passing-skip n (sym e)

-- what is seen of the numbers below n alone
pub passing-below : (test : ℕ → Bool) (n : ℕ) (xs : List ℕ) → IsRising nat_lt xs → ((i : ℕ) → i < n → test i ≡ true → Has i xs) → ((i : ℕ) → Has i xs → (i < n) × (test i ≡ true)) → passing test n ≡ xs
passing-below test n xs r to from =
    ext nat_laws (passing test n) xs (rising-passing test n) r (λ i h. let p = has-passing test n i h in to i p.0 p.1) (λ i h. let p = from i h in passing-has test n i p.0 p.1)

pub passing-none : (test : ℕ → Bool) (n : ℕ) → ((i : ℕ) → test i ≡ false) → passing test n ≡ []
passing-none test n e = passing-below test n [] tt (λ i l h. absurd (grind (arith, e i, h))) (λ i h. absurd h)

-- tests that agree
pub passing-same : (f g : ℕ → Bool) (n : ℕ) → ((i : ℕ) → f i ≡ g i) → passing f n ≡ passing g n
passing-same f g n e = passing-below f n (passing g n) (rising-passing g n) (λ i l h. passing-has g n i l (sym (e i) ∙ h)) (λ i h. let p = has-passing g n i h in (p.0, e i ∙ p.1))

-- tests that agree but at one number
module _ (f g : ℕ → Bool) (i n : ℕ) (small : i < n) (others : (j : ℕ) → (j ≡ i → ⊥) → g j ≡ f j) where
  pub passing-with : g i ≡ true → passing g n ≡ put_in nat_lt i (passing f n)
  passing-with there = passing-below g n (put_in nat_lt i (passing f n)) (rising-put_in nat_laws i (passing f n) (rising-passing f n)) to from
    where
      to : (j : ℕ) → j < n → g j ≡ true → Has j (put_in nat_lt i (passing f n))
      to j l e = (has-put_in nat_laws i j (passing f n)).1 (elim (cases_eq j i) [ inl q ↦ inl q | inr d ↦ inr (passing-has f n j l (sym (others j d) ∙ e)) ])

      from : (j : ℕ) → Has j (put_in nat_lt i (passing f n)) → (j < n) × (g j ≡ true)
      from j h = elim ((has-put_in nat_laws i j (passing f n)).0 h) [
        | inl q ↦ (omega (arith, small, q), ap g q ∙ there)
        | inr m ↦
            let p = has-passing f n j m in
            (p.0, elim (cases_eq j i) [ inl q ↦ ap g q ∙ there | inr d ↦ others j d ∙ p.1 ])
      ]

  pub passing-without : g i ≡ false → passing g n ≡ minus nat_lt (passing f n) (i ∷ [])
  passing-without gone = passing-below g n (minus nat_lt (passing f n) (i ∷ [])) (rising-minus nat_laws (passing f n) (i ∷ []) (rising-passing f n)) to from
    where
      apart : (j : ℕ) → g j ≡ true → j ≡ i → ⊥
      apart j e q = absurd (grind (arith, sym e ∙ (ap g q ∙ gone)))

      to : (j : ℕ) → j < n → g j ≡ true → Has j (minus nat_lt (passing f n) (i ∷ []))
      to j l e = (minus-iff nat_laws j (passing f n) (i ∷ [])).1 (passing-has f n j l (sym (others j (apart j e)) ∙ e), λ m. elim m [ inl q ↦ apart j e q | inr z ↦ z ])

      from : (j : ℕ) → Has j (minus nat_lt (passing f n) (i ∷ [])) → (j < n) × (g j ≡ true)
      from j h =
          let r = (minus-iff nat_laws j (passing f n) (i ∷ [])).0 h in
          let p = has-passing f n j r.0 in
          (p.0, others j (λ q. r.1 (inl q)) ∙ p.1)
