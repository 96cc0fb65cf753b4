-- Two numbers are the same or not, with the test.
use Rattle.std.proofs.Common.{◌≡◌, ℕ, ◌==◌, Bool, true, false, refl, arith, eqb-true, eq-eqb}
use Rattle.base.specs.Sets.{Has}
use Rattle.std.proofs.Common.{List, [], inl, inr, nat_le, nat_lt, subst, suc, sym, ◌+◌, ◌-◌, ◌<◌, ◌∷◌, ◌≢◌, ◌≤◌, ◌⊎◌}
use Rattle.std.proofs.lemmas.Bool.{cases_lt}
use Rattle.std.proofs.lemmas.Grind.{common_steps}
use Rattle.std.specs.Char.{digit_value}
use Rattle.std.specs.Prelude.{nat_eq}
use Rattle.std.proofs.lemmas.Bool.Decides.{nat_tests}
use Rattle.base.specs.Numbers.{sum_over}

pub data Same (x y : ℕ) : Type 0 where
  Is : x ≡ y → (x == y) ≡ true → Same x y
  Not : (x ≡ y → ⊥) → (x == y) ≡ false → Same x y

same_by : (x y : ℕ) (b : Bool) → (x == y) ≡ b → Same x y
same_by x y true e = Is (eqb-true x y e) e
same_by x y false e = Not (λ q. grind (arith, eq-eqb x y q)) e

pub compare : (x y : ℕ) → Same x y
compare x y = same_by x y (x == y) refl

pub digit-range : (d : ℕ) → digit_value d < 10 → (48 ≤ d) × (d ≤ 57)
digit-range d h = grind arith

pub each-of-three : (P : ℕ → Type 0) → P 1 → P 2 → P 3 → ((t : ℕ) → (t == 1) ≡ false → (t == 2) ≡ false → (t == 3) ≡ false → P t) → (t : ℕ) → P t
each-of-three P p q r s t = by (compare t 1) (compare t 2) (compare t 3)
  where
    by : Same t 1 → Same t 2 → Same t 3 → P t
    by (Is e v) y z = subst P (sym e) p
    by (Not n v) (Is e v') z = subst P (sym e) q
    by (Not n v) (Not n' v') (Is e v'') = subst P (sym e) r
    by (Not n v) (Not n' v') (Not n'' v'') = s t v v' v''

pub eq-nat_eq : (a b : ℕ) → a ≡ b → nat_eq a b ≡ true
eq-nat_eq a b e = grind (arith, common_steps)

pub eqb-self : (n : ℕ) → (n == n) ≡ true
eqb-self n = grind (arith, nat_tests)

pub le-nat_le : (a b : ℕ) → a ≤ b → nat_le a b ≡ true
le-nat_le a b l = grind (arith, nat_tests)

pub le-or-gt : (m n : ℕ) → (m ≤ n) ⊎ (n < m)
le-or-gt m n = elim (cases_lt n m) [ inl a ↦ inr a | inr b ↦ inl b ]

pub lt-nat_lt : (a k : ℕ) → a < k → nat_lt a k ≡ true
lt-nat_lt a k l = grind (arith, l)

pub nat_eq-self : (q : ℕ) → nat_eq q q ≡ true
nat_eq-self q = grind (arith, nat_tests)

pub nat_eq-true : (a b : ℕ) → nat_eq a b ≡ true → a ≡ b
nat_eq-true a b e = grind (arith, common_steps)

pub nat_lt-true : (a b : ℕ) → nat_lt a b ≡ true → a < b
nat_lt-true a b e = grind (arith, nat_tests)

pub neq-eqb : (a b : ℕ) → (a ≡ b → ⊥) → (a == b) ≡ false
neq-eqb a b n = grind (arith, nat_tests)

pub neq-nat_eq : (a b : ℕ) → a ≢ b → nat_eq a b ≡ false
neq-nat_eq a b ne = grind (arith, common_steps)

pub suc-one-add : (i : ℕ) → suc i ≡ 1 + i
suc-one-add i = omega arith

pub sum_over-same : {X : Type 0} (f g : X → ℕ) (xs : List X) → ((x : X) → Has x xs → f x ≡ g x) → sum_over f xs ≡ sum_over g xs
sum_over-same f g [] e = refl
sum_over-same f g (x ∷ xs) e = omega (arith, e x (inl refl), sum_over-same f g xs (λ y h. e y (inr h)))

pub sum_over-zero : (xs : List ℕ) → sum_over (λ b. 0) xs ≡ 0
sum_over-zero [] = refl
sum_over-zero (x ∷ xs) = omega (arith, sum_over-zero xs)

pub zero-add : (m : ℕ) → 0 + m ≡ m
zero-add m = omega arith
