-- Lemmas on the search for an interface among rising ones.
use Rattle.std.proofs.Common.{◌≡◌, inl, inr, refl, true, subst, ℕ, ◌<◌, ◌≤◌, List, length, get_or, Result, Ok, Err, MatchResult, IfSome, IfNone, arith}
use Rattle.std.specs.Option.{IsSome}
use Rattle.std.specs.Result.{result_ok, is_ok}
use Rattle.std.proofs.lemmas.Bool.{cases_lt}
use Rattle.base.specs.Sets.{Has}
use Rattle.base.proofs.Sets.{has-get_or, get_or-has}

abbrev pub IsFound : List ℕ → ℕ → Result ℕ ℕ → Type 0
IsFound xs x r = MatchResult r (λ i. (i < length xs) × (get_or xs i 0 ≡ x)) (λ i. (i ≤ length xs) × ((k : ℕ) → k < i → get_or xs k 0 < x) × ((k : ℕ) → i ≤ k → k < length xs → x < get_or xs k 0))

pub found-some : (xs : List ℕ) (x : ℕ) (r : Result ℕ ℕ) → IsFound xs x r → IfSome (result_ok r) (λ i. (i < length xs) × (get_or xs i 0 ≡ x))
found-some xs x (Ok i) f = f
found-some xs x (Err i) f = tt

pub found-none : (xs : List ℕ) (x : ℕ) (r : Result ℕ ℕ) → IsFound xs x r → IfNone (result_ok r) (Has x xs → ⊥)
found-none xs x (Ok i) f = tt
found-none xs x (Err i) f = λ m. go (has-get_or xs x m)
  where
    go : (k : ℕ) × (k < length xs) × (get_or xs k 0 ≡ x) → ⊥
    go (k, l, e) = elim (cases_lt k i) [ inl a ↦ (let b = f.1 k a in absurd (omega (arith, b, e))) | inr a ↦ (let b = f.2 k a l in absurd (omega (arith, b, e))) ]

-- what is there is found
pub there-some : (xs : List ℕ) (x : ℕ) (r : Result ℕ ℕ) → IsFound xs x r → Has x xs → IsSome (result_ok r)
there-some xs x (Ok i) f h = refl
there-some xs x (Err i) f h = absurd (found-none xs x (Err i) f h)

pub found-there : (xs : List ℕ) (x : ℕ) (r : Result ℕ ℕ) → IsFound xs x r → is_ok r ≡ true → Has x xs
found-there xs x (Ok i) f e = subst (λ (z : ℕ). Has z xs) f.1 (get_or-has xs i 0 f.0)
found-there xs x (Err i) f e = absurd cc
