-- Rising lists among others, and sums over distinct numbers.
use Rattle.std.proofs.Common.{◌≡◌, ℕ, suc, ◌+◌, ◌≤◌, ◌==◌, cond, List, [], ◌∷◌, inl, inr, length, refl, sym, subst, ◌∙◌, arith}
use Rattle.base.specs.Sets.{Has}
use Rattle.base.specs.Numbers.{IsDistinct, sum_over}
use Rattle.base.proofs.Numbers.{Same, Is, Not, compare}
use Rattle.law_routing.specs.Order.{IsStrictlyRising}

-- without the first that is this one
without : ℕ → List ℕ → List ℕ
without x [] = []
without x (y ∷ ys) = cond (y == x) ys (y ∷ without x ys)

module _ (x : ℕ) where
  one-less : (ys : List ℕ) → Has x ys → length ys ≡ suc (length (without x ys))
  unfolding without
  one-less [] h = absurd h
  one-less (y ∷ ys) (inl e) = go (compare y x)
    where
      go : Same y x → suc (length ys) ≡ suc (length (cond (y == x) ys (y ∷ without x ys)))
      go (Is p v) = rw v refl
      go (Not n v) = absurd (n (sym e))
  one-less (y ∷ ys) (inr h) = go (compare y x) (one-less ys h)
    where
      go : Same y x → length ys ≡ suc (length (without x ys)) → suc (length ys) ≡ suc (length (cond (y == x) ys (y ∷ without x ys)))
      go (Is p v) ih = rw v refl
      go (Not n v) ih = rw v (omega (arith, ih))

  still-has : (z : ℕ) (ys : List ℕ) → Has z ys → (z ≡ x → ⊥) → Has z (without x ys)
  unfolding without
  still-has z [] h n = absurd h
  still-has z (y ∷ ys) (inl e) n = go (compare y x)
    where
      go : Same y x → Has z (cond (y == x) ys (y ∷ without x ys))
      go (Is p v) = absurd (n (e ∙ p))
      go (Not m v) = rw v (inl e)
  still-has z (y ∷ ys) (inr h) n = go (compare y x) (still-has z ys h n)
    where
      go : Same y x → Has z (without x ys) → Has z (cond (y == x) ys (y ∷ without x ys))
      go (Is p v) ih = rw v h
      go (Not m v) ih = rw v (inr ih)

-- a rising list has no more members than one that has them all
pub rising-within : (xs ys : List ℕ) → IsStrictlyRising xs → ((x : ℕ) → Has x xs → Has x ys) → length xs ≤ length ys
rising-within [] ys u f = omega arith
rising-within (x ∷ xs) ys u f =
    let less = one-less x ys (f x (inl refl)) in
    let rest = rising-within xs (without x ys) u.1 (λ z h. still-has x z ys (f z (inr h)) (λ e. omega (arith, e, u.0 z h))) in
    omega (arith, less, rest)

pub sum-le : {X : Type 0} (f g : X → ℕ) (xs : List X) → ((x : X) → Has x xs → f x ≤ g x) → sum_over f xs ≤ sum_over g xs
sum-le f g [] e = omega arith
sum-le f g (x ∷ xs) e = omega (arith, e x (inl refl), sum-le f g xs (λ y h. e y (inr h)))

pub sum-zero : {X : Type 0} (xs : List X) → sum_over (λ x. 0) xs ≡ 0
sum-zero [] = refl
sum-zero (x ∷ xs) = omega (arith, sum-zero xs)

pub sum-both : {X : Type 0} (f g : X → ℕ) (xs : List X) → sum_over (λ x. f x + g x) xs ≡ sum_over f xs + sum_over g xs
sum-both f g [] = refl
sum-both f g (x ∷ xs) = omega (arith, sum-both f g xs)

-- one of distinct numbers is counted once
pub sum-one : (p o : ℕ) (xs : List ℕ) → Has p xs → IsDistinct xs → sum_over (λ q. length (cond (q == p) (o ∷ []) [])) xs ≡ 1
sum-one p o [] h d = absurd h
sum-one p o (x ∷ xs) h d = go (compare x p) h (λ i. sum-one p o xs i d.1)
  where
    none : (ys : List ℕ) → (Has p ys → ⊥) → sum_over (λ q. length (cond (q == p) (o ∷ []) [])) ys ≡ 0
    none [] n = refl
    none (y ∷ ys) n = one (compare y p) (none ys (λ i. n (inr i)))
      where
        one : Same y p → sum_over (λ q. length (cond (q == p) (o ∷ []) [])) ys ≡ 0 → length (cond (y == p) (o ∷ []) []) + sum_over (λ q. length (cond (q == p) (o ∷ []) [])) ys ≡ 0
        one (Is e v) ih = absurd (n (inl (sym e)))
        one (Not m v) ih = rw v (omega (arith, ih))

    go : Same x p → Has p (x ∷ xs) → (Has p xs → sum_over (λ q. length (cond (q == p) (o ∷ []) [])) xs ≡ 1) → length (cond (x == p) (o ∷ []) []) + sum_over (λ q. length (cond (q == p) (o ∷ []) [])) xs ≡ 1
    go (Is e v) h ih = rw v (omega (arith, none xs (λ i. d.0 (subst (λ z. Has z xs) (sym e) i))))
    go (Not m v) (inl e) ih = absurd (m (sym e))
    go (Not m v) (inr i) ih = rw v (omega (arith, ih i))
