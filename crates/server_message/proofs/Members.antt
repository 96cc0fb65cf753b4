-- Lemmas on the members of a list of numbers, by their places.
use Rattle.std.proofs.Common.{◌≡◌, ℕ, zero, suc, ◌+◌, ◌<◌, ◌≤◌, ◌⊎◌, ◌==◌, ◌||◌, nat_lt, Bool, true, false, List, [], ◌∷◌, length, get_or, inl, inr, refl, sym, subst, ◌∙◌, arith, eq-eqb}
use Rattle.std.specs.List.{list_any}
use Rattle.std.proofs.lemmas.Bool.{cases_lt}
use Rattle.std.proofs.lemmas.Bool.Decides.{nat_tests}
use Rattle.base.specs.Sets.{Has, IsRising}
use Rattle.base.proofs.Sets.{has-any}

-- what holds at each place holds of each member
pub each : (P : ℕ → Type 0) (xs : List ℕ) → ((j : ℕ) → j < length xs → P (get_or xs j 0)) → (i : ℕ) → Has i xs → P i
each P [] h i m = absurd m
each P (x ∷ xs) h i (inl e) = subst P (sym e) (h 0 (omega arith))
each P (x ∷ xs) h i (inr m) = each P xs (λ j l. h (suc j) (omega (arith, l))) i m

-- numbers of which each is above the one before it rise
pub rises : (xs : List ℕ) → ((j : ℕ) → suc j < length xs → get_or xs j 0 < get_or xs (suc j) 0) → IsRising nat_lt xs
rises [] h = tt
rises (x ∷ xs) h = (λ y m. less x y (above x xs h y m), rises xs (λ j l. h (suc j) (omega (arith, l))))
  where
    less : (a b : ℕ) → a < b → nat_lt a b ≡ true
    less a b l = grind (arith, nat_tests)

    above : (x : ℕ) (xs : List ℕ) → ((j : ℕ) → suc j < length (x ∷ xs) → get_or (x ∷ xs) j 0 < get_or (x ∷ xs) (suc j) 0) → (y : ℕ) → Has y xs → x < y
    above x [] h y m = absurd m
    above x (z ∷ zs) h y (inl e) = let l : x < z = h 0 (omega arith) in omega (arith, l, e)
    above x (z ∷ zs) h y (inr m) =
        let l : x < z = h 0 (omega arith) in
        let k = above z zs (λ j l. h (suc j) (omega (arith, l))) y m in
        omega (arith, l, k)

-- a number that was not found among others is none of them
pub not-found : (x : ℕ) (xs : List ℕ) (b : Bool) → b ≡ list_any (λ y. y == x) xs → b ≡ false → Has x xs → ⊥
not-found x xs b e f h = no (sym f ∙ (e ∙ has-any x xs h))
  where
    no : false ≡ true → ⊥
    no e = cc

-- one place more
pub also-at : (P : ℕ → Type 0) (xs : List ℕ) (n : ℕ) → ((j : ℕ) → j < n → P (get_or xs j 0)) → P (get_or xs n 0) → (j : ℕ) → j < n + 1 → P (get_or xs j 0)
also-at P xs n before now j l = go (cases_lt j n)
  where
    go : (j < n) ⊎ (n ≤ j) → P (get_or xs j 0)
    go (inl m) = before j m
    go (inr m) = let e : n ≡ j = omega (arith, l, m) in subst (λ k. P (get_or xs k 0)) e now

-- numbers that rise are each above the one before it
pub rising-at : (xs : List ℕ) → IsRising nat_lt xs → (j : ℕ) → suc j < length xs → get_or xs j 0 < get_or xs (suc j) 0
rising-at [] r j l = omega (arith, l)
rising-at (x ∷ []) r j l = omega (arith, l)
rising-at (x ∷ (y ∷ ys)) r zero l = less x y (r.0 y (inl refl))
  where
    less : (a b : ℕ) → nat_lt a b ≡ true → a < b
    less a b e = grind (arith, nat_tests, e)
rising-at (x ∷ (y ∷ ys)) r (suc j) l = rising-at (y ∷ ys) r.1 j (omega (arith, l))
