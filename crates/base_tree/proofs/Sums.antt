-- Lemmas on sums over lists.
use Rattle.std.proofs.Common.{◌≡◌, ℕ, ◌+◌, ◌≤◌, ◌==◌, Bool, true, false, cond, List, [], ◌∷◌, inl, inr, length, refl, sym, ap, subst, ◌∙◌, arith, ne_eqb, eq-eqb}
use Rattle.base.specs.Sets.{Has}
use Rattle.base.specs.Numbers.{sum_over, IsDistinct}
use Rattle.base.proofs.Numbers.{Same, Is, Not, compare, sum_over-zero}

pub sum-same : (f g : ℕ → ℕ) (xs : List ℕ) → ((x : ℕ) → Has x xs → f x ≡ g x) → sum_over f xs ≡ sum_over g xs
sum-same f g [] e = refl
sum-same f g (x ∷ xs) e = omega (arith, e x (inl refl), sum-same f g xs (λ y h. e y (inr h)))

pub sum-plus : (f g : ℕ → ℕ) (xs : List ℕ) → sum_over (λ x. f x + g x) xs ≡ sum_over f xs + sum_over g xs
sum-plus f g [] = omega arith
sum-plus f g (x ∷ xs) = omega (arith, sum-plus f g xs)

pub ones : (xs : List ℕ) → sum_over (λ x. 1) xs ≡ length xs
ones [] = refl
ones (x ∷ xs) = omega (arith, ones xs)

pub sum-swap : (f : ℕ → ℕ → ℕ) (xs ys : List ℕ) → sum_over (λ x. sum_over (f x) ys) xs ≡ sum_over (λ y. sum_over (λ x. f x y) xs) ys
sum-swap f [] ys = sym (sum_over-zero ys)
sum-swap f (x ∷ xs) ys = omega (arith, sum-swap f xs ys, sum-plus (f x) (λ y. sum_over (λ x. f x y) xs) ys)

pub sum-cond : (b : Bool) (f : ℕ → ℕ) (xs : List ℕ) → sum_over (λ x. cond b 0 (f x)) xs ≡ cond b 0 (sum_over f xs)
sum-cond true f xs = sum_over-zero xs
sum-cond false f xs = refl

-- one at one number, and nothing elsewhere
abbrev pub only : ℕ → ℕ → ℕ
only u x = cond (x == u) 1 0

pub only-at : (u x : ℕ) → x ≡ u → only u x ≡ 1
only-at u x e = rw (eq-eqb x u e) refl

pub only-off : (u x : ℕ) → (x ≡ u → ⊥) → only u x ≡ 0
only-off u x n = rw (ne_eqb x u n) refl

only-none : (u : ℕ) (xs : List ℕ) → (Has u xs → ⊥) → sum_over (only u) xs ≡ 0
only-none u [] n = refl
only-none u (x ∷ xs) n = rw (ne_eqb x u (λ e. n (inl (sym e)))) (omega (arith, only-none u xs (λ h. n (inr h))))

pub only-one : (u : ℕ) (xs : List ℕ) → IsDistinct xs → Has u xs → sum_over (only u) xs ≡ 1
only-one u [] d h = absurd h
only-one u (x ∷ xs) d (inl e) = rw (eq-eqb x u (sym e)) (omega (arith, only-none u xs (λ k. d.0 (subst (λ z. Has z xs) e k))))
only-one u (x ∷ xs) d (inr h) = rw (ne_eqb x u (λ e. d.0 (subst (λ z. Has z xs) (sym e) h))) (omega (arith, only-one u xs d.1 h))

-- one of the numbers that aren't left out
pub part-sum : (size : ℕ → ℕ) (but b : ℕ) (bs : List ℕ) → Has b bs → (b ≡ but → ⊥) → size b ≤ sum_over (λ c. cond (c == but) 0 (size c)) bs
part-sum size but b [] h n = absurd h
part-sum size but b (x ∷ bs) h n = go (compare x but) h (λ k. part-sum size but b bs k n)
  where
    go : Same x but → Has b (x ∷ bs) → (Has b bs → size b ≤ sum_over (λ c. cond (c == but) 0 (size c)) bs) → size b ≤ sum_over (λ c. cond (c == but) 0 (size c)) (x ∷ bs)
    go (Is q v) (inl p) ih = absurd (n (p ∙ q))
    go (Is q v) (inr k) ih = rw v (omega (arith, ih k))
    go (Not z v) (inl p) ih = rw v (omega (arith, ap size p))
    go (Not z v) (inr k) ih = rw v (omega (arith, ih k))
