-- The items of a list: by their places, through a function, and once one more is put at its end.
use Rattle.std.proofs.Common.{◌≡◌, ◌⊎◌, ◌↔◌, inl, inr, ℕ, suc, zero, ◌+◌, ◌<◌, List, [], ◌∷◌, ◌++◌, length, map, Option, Some, refl, sym, ap, subst, ◌∙◌, arith, slice_get}
use Rattle.base.specs.Sets.{Has}

pub map-Has : {A B : Type 0} (f : A → B) (xs : List A) (x : A) (y : B) → Has x xs → y ≡ f x → Has y (map f xs)
map-Has f [] x y h e = absurd h
map-Has f (z ∷ zs) x y (inl q) e = inl (subst (λ w. y ≡ f w) q e)
map-Has f (z ∷ zs) x y (inr h) e = inr (map-Has f zs x y h e)

pub some-same : {X : Type 0} (o : Option X) (a b : X) → o ≡ Some a → o ≡ Some b → a ≡ b
some-same o a b e f =
    let two : Some a ≡ Some b = sym e ∙ f in
    cc

pub un-push : {X : Type 0} (xs : List X) (h : X) (i : ℕ) (a : X) → slice_get (xs ++ h ∷ []) i ≡ Some a → ((i < length xs) × (slice_get xs i ≡ Some a)) ⊎ ((i ≡ length xs) × (a ≡ h))
un-push [] h zero a e = inr (refl, some-same _ a h e refl)
un-push [] h (suc i) a e = absurd cc
un-push (x ∷ xs) h zero a e = inl (omega arith, e)
un-push (x ∷ xs) h (suc i) a e = elim (un-push xs h i a e) [ inl r ↦ inl (omega (arith, r.0), r.1) | inr r ↦ inr (ap suc r.0, r.1) ]

pub has-push : {X : Type 0} (xs : List X) (y x : X) → Has x (xs ++ y ∷ []) ↔ (Has x xs ⊎ (x ≡ y))
has-push [] y x = (to, from)
  where
    to : Has x (y ∷ []) → ⊥ ⊎ (x ≡ y)
    to (inl q) = inr q
    to (inr h) = absurd h

    from : ⊥ ⊎ (x ≡ y) → Has x (y ∷ [])
    from (inl h) = absurd h
    from (inr q) = inl q
has-push {X} (z ∷ zs) y x = go (has-push zs y x)
  where
    go : Has x (zs ++ y ∷ []) ↔ (Has x zs ⊎ (x ≡ y)) → Has x (z ∷ zs ++ y ∷ []) ↔ (Has x (z ∷ zs) ⊎ (x ≡ y))
    go ih = (to, from)
      where
        to : Has x (z ∷ zs ++ y ∷ []) → Has x (z ∷ zs) ⊎ (x ≡ y)
        to (inl q) = inl (inl q)
        to (inr h) = elim (ih.0 h) [ inl m ↦ inl (inr m) | inr q ↦ inr q ]

        from : Has x (z ∷ zs) ⊎ (x ≡ y) → Has x (z ∷ zs ++ y ∷ [])
        from (inl (inl q)) = inl q
        from (inl (inr m)) = inr (ih.1 (inl m))
        from (inr q) = inr (ih.1 (inr q))
