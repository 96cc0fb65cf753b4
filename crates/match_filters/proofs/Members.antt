-- The numbers of the filters that a notice matches are a set.
use Rattle.std.proofs.Common.{◌≡◌, ◌↔◌, ◌+◌, ◌<◌, refl, sym, subst, arith, inl, inr, ℕ, zero, suc, nat_lt, Bool, true, false, cond, List, [], ◌∷◌, length, get_or}
use Rattle.std.proofs.lemmas.Bool.Decides.{nat_tests}
use Rattle.base.specs.Sets.{Has, IsRising}
use Rattle.filter_constraints.specs.Constraint.{ConstraintParts}
use Rattle.filter_types.specs.Notice.{Attribute}
use Rattle.filter_types.specs.Cover.{matches}
use Rattle.match_filters.specs.Matching.{matched_from, matched}

-- a filter's place among the filters from i on, and that the notice matches it
pub record IsFrom (n : List Attribute) (i : ℕ) (fs : List (List ConstraintParts)) (k : ℕ) : Type 0 where
  pub place : ℕ
  pub number : k ≡ i + place
  pub within : place < length fs
  pub matched : matches n (get_or fs place []) ≡ true

module _ (n : List Attribute) where
  pub has-from : (i : ℕ) (fs : List (List ConstraintParts)) (k : ℕ) → Has k (matched_from n i fs) → IsFrom n i fs k
  has-from i [] k h = absurd h
  has-from i (f ∷ fs) k h = go (matches n f) refl h (has-from (suc i) fs k)
    where
      later : IsFrom n (suc i) fs k → IsFrom n i (f ∷ fs) k
      later r = record { place = suc r.place; number = omega (arith, r.number); within = omega (arith, r.within); matched = r.matched }

      go : (b : Bool) → matches n f ≡ b → Has k (cond b (i ∷ matched_from n (suc i) fs) (matched_from n (suc i) fs)) → (Has k (matched_from n (suc i) fs) → IsFrom n (suc i) fs k) → IsFrom n i (f ∷ fs) k
      go true e (inl q) ih = record { place = zero; number = omega (arith, q); within = omega arith; matched = e }
      go true e (inr m) ih = later (ih m)
      go false e m ih = later (ih m)

  pub from-has : (i : ℕ) (fs : List (List ConstraintParts)) (j : ℕ) → j < length fs → matches n (get_or fs j []) ≡ true → Has (i + j) (matched_from n i fs)
  from-has i [] j l e = absurd (omega (arith, l))
  from-has i (f ∷ fs) zero l e =
      let z : i + 0 ≡ i = omega arith in
      rw e (inl z)
  from-has i (f ∷ fs) (suc j) l e =
      let z : suc i + j ≡ i + suc j = omega arith in
      go (matches n f) (subst (λ (k : ℕ). Has k (matched_from n (suc i) fs)) z (from-has (suc i) fs j (omega (arith, l)) e))
    where
      go : (b : Bool) → Has (i + suc j) (matched_from n (suc i) fs) → Has (i + suc j) (cond b (i ∷ matched_from n (suc i) fs) (matched_from n (suc i) fs))
      go true h = inr h
      go false h = h

  pub rising-from : (i : ℕ) (fs : List (List ConstraintParts)) → IsRising nat_lt (matched_from n i fs)
  rising-from i [] = tt
  rising-from i (f ∷ fs) = go (matches n f) (rising-from (suc i) fs)
    where
      above : (k : ℕ) → Has k (matched_from n (suc i) fs) → nat_lt i k ≡ true
      above k h = let q = (has-from (suc i) fs k h).number in grind (arith, nat_tests)

      go : (b : Bool) → IsRising nat_lt (matched_from n (suc i) fs) → IsRising nat_lt (cond b (i ∷ matched_from n (suc i) fs) (matched_from n (suc i) fs))
      go true r = (above, r)
      go false r = r

-- which numbers are matched
pub matched-iff : (n : List Attribute) (filters : List (List ConstraintParts)) (k : ℕ) → Has k (matched n filters) ↔ ((k < length filters) × (matches n (get_or filters k []) ≡ true))
unfolding matched
matched-iff n filters k = (to, from)
  where
    to : Has k (matched n filters) → (k < length filters) × (matches n (get_or filters k []) ≡ true)
    to h =
        let q = has-from n 0 filters k h in
        let e : k ≡ q.place = omega (arith, q.number) in
        (omega (arith, e, q.within), subst (λ (z : ℕ). matches n (get_or filters z []) ≡ true) (sym e) q.matched)

    from : (k < length filters) × (matches n (get_or filters k []) ≡ true) → Has k (matched n filters)
    from h =
        let z : 0 + k ≡ k = omega arith in
        subst (λ (j : ℕ). Has j (matched n filters)) z (from-has n 0 filters k h.0 h.1)

pub rising-matched : (n : List Attribute) (filters : List (List ConstraintParts)) → IsRising nat_lt (matched n filters)
unfolding matched
rising-matched n filters = rising-from n 0 filters
