-- Lemmas on the first members of a list.
use Rattle.std.proofs.Common.{◌≡◌, ◌⊎◌, ◌↔◌, inl, inr, ℕ, zero, suc, ◌+◌, ◌≤◌, List, [], ◌∷◌, ◌++◌, Some, map, take, length, slice_get, refl, ap, arith, add-one}
use Rattle.base.specs.Sets.{Has}
use Rattle.base.proofs.Lists.{take-suc-some}

-- a member of the first ones is a member
pub has-take : {X : Type 0} (xs : List X) (n : ℕ) (y : X) → Has y (take n xs) → Has y xs
has-take [] zero y m = m
has-take [] (suc n) y m = m
has-take (x ∷ xs) zero y m = absurd m
has-take (x ∷ xs) (suc n) y (inl q) = inl q
has-take (x ∷ xs) (suc n) y (inr m) = inr (has-take xs n y m)

-- all of them
pub take-all : {X : Type 0} (xs : List X) (n : ℕ) → length xs ≤ n → take n xs ≡ xs
take-all [] zero e = refl
take-all [] (suc n) e = refl
take-all (x ∷ xs) zero e = absurd (omega (arith, e))
take-all (x ∷ xs) (suc n) e = ap (λ z. x ∷ z) (take-all xs n (omega (arith, e)))

-- one more member
pub has-more : {X : Type 0} (xs : List X) (x y : X) → Has y (xs ++ x ∷ []) ↔ (Has y xs ⊎ (y ≡ x))
has-more [] x y = (λ m. elim m [ inl q ↦ inr q | inr m ↦ absurd m ], λ m. elim m [ inl m ↦ absurd m | inr q ↦ inl q ])
has-more {X} (z ∷ zs) x y = go (has-more zs x y)
  where
    go : Has y (zs ++ x ∷ []) ↔ (Has y zs ⊎ (y ≡ x)) → Has y (z ∷ zs ++ x ∷ []) ↔ (Has y (z ∷ zs) ⊎ (y ≡ x))
    go ih = (to, from)
      where
        to : Has y (z ∷ zs ++ x ∷ []) → Has y (z ∷ zs) ⊎ (y ≡ x)
        to (inl q) = inl (inl q)
        to (inr m) = elim (ih.0 m) [ inl k ↦ inl (inr k) | inr q ↦ inr q ]

        from : Has y (z ∷ zs) ⊎ (y ≡ x) → Has y (z ∷ zs ++ x ∷ [])
        from (inl (inl q)) = inl q
        from (inl (inr m)) = inr (ih.1 (inl m))
        from (inr q) = inr (ih.1 (inr q))

pub has-next : {X : Type 0} (xs : List X) (n : ℕ) (x y : X) → slice_get xs n ≡ Some x → Has y (take (n + 1) xs) ↔ (Has y (take n xs) ⊎ (y ≡ x))
has-next xs n x y e = rw (add-one, take-suc-some xs n x e) (has-more (take n xs) x y)

pub map-id : {X : Type 0} (xs : List X) → map (λ x. x) xs ≡ xs
map-id [] = refl
map-id (x ∷ xs) = ap (λ z. x ∷ z) (map-id xs)
