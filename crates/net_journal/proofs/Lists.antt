-- Lists of which each member stands in a relation to all later ones.
use Rattle.std.proofs.Common.{◌≡◌, ℕ, ◌<◌, Bool, true, false, cond, List, [], ◌∷◌, ◌++◌, inl, inr, filter, refl, sym, ap, ◌∙◌, arith}
use Rattle.base.specs.Sets.{Has}
use Rattle.base.proofs.Roots.{filter-Has}
use Rattle.base.proofs.Sets.{has-append}

module _ {T : Type 0} where
  -- each before all later ones
  abbrev pub Later : (T → T → Type 0) → List T → Type 0
  Later R [] = Unit {0}
  Later R (x ∷ xs) = ((y : T) → Has y xs → R x y) × Later R xs

  -- what a test lets pass
  pub later-filter : (R S : T → T → Type 0) (test : T → Bool) → ((x y : T) → test x ≡ true → test y ≡ true → R x y → S x y)
      → (xs : List T) → Later R xs → Later S (filter test xs)
  later-filter R S test h [] r = tt
  later-filter R S test h (x ∷ xs) r = go (test x) refl (later-filter R S test h xs r.1)
    where
      go : (b : Bool) → test x ≡ b → Later S (filter test xs) → Later S (cond b (x ∷ filter test xs) (filter test xs))
      go true e ih = ((λ y m. let n = filter-Has test y xs m in h x y e n.1 (r.0 y n.0)), ih)
      go false e ih = ih

  pub later-append : (R : T → T → Type 0) (xs ys : List T) → Later R xs → Later R ys → ((x y : T) → Has x xs → Has y ys → R x y) → Later R (xs ++ ys)
  later-append R [] ys r s h = s
  later-append R (x ∷ xs) ys r s h = (
    (λ y m. elim (has-append y xs ys m) [ inl a ↦ r.0 y a | inr b ↦ h x y (inl refl) b ]),
    later-append R xs ys r.1 s (λ a b m n. h a b (inr m) n),
  )

  pub filter-append : (test : T → Bool) (xs ys : List T) → filter test (xs ++ ys) ≡ filter test xs ++ filter test ys
  filter-append test [] ys = refl
  filter-append test (x ∷ xs) ys = go (test x) (filter-append test xs ys)
    where
      go : (b : Bool) → filter test (xs ++ ys) ≡ filter test xs ++ filter test ys
          → cond b (x ∷ filter test (xs ++ ys)) (filter test (xs ++ ys)) ≡ cond b (x ∷ filter test xs) (filter test xs) ++ filter test ys
      go true ih = ap (λ l. x ∷ l) ih
      go false ih = ih

  pub filter-all : (test : T → Bool) (xs : List T) → ((x : T) → Has x xs → test x ≡ true) → filter test xs ≡ xs
  filter-all test [] h = refl
  filter-all test (x ∷ xs) h = rw (h x (inl refl)) (ap (λ l. x ∷ l) (filter-all test xs (λ y m. h y (inr m))))

  pub filter-none : (test : T → Bool) (xs : List T) → ((x : T) → Has x xs → test x ≡ false) → filter test xs ≡ []
  filter-none test [] h = refl
  filter-none test (x ∷ xs) h = rw (h x (inl refl)) (filter-none test xs (λ y m. h y (inr m)))

  -- a number rises
  abbrev pub Rises : (T → ℕ) → List T → Type 0
  Rises rank xs = Later (λ x y. rank x < rank y) xs

  -- lists with the same members of which a number rises are one
  pub one-list : (rank : T → ℕ) (xs ys : List T) → Rises rank xs → Rises rank ys → ((x : T) → Has x xs → Has x ys) → ((x : T) → Has x ys → Has x xs) → xs ≡ ys
  one-list rank [] [] r s f g = refl
  one-list rank [] (y ∷ ys) r s f g = absurd (g y (inl refl))
  one-list rank (x ∷ xs) [] r s f g = absurd (f x (inl refl))
  one-list rank (x ∷ xs) (y ∷ ys) r s f g = ap (λ z. z ∷ xs) heads ∙ ap (λ l. y ∷ l) (one-list rank xs ys r.1 s.1 to from)
    where
      heads : x ≡ y
      heads = elim (f x (inl refl)) [ inl q ↦ q | inr m ↦ elim (g y (inl refl)) [ inl q ↦ sym q | inr k ↦ absurd (omega (arith, r.0 y k, s.0 x m)) ] ]

      to : (z : T) → Has z xs → Has z ys
      to z m = elim (f z (inr m)) [ inl q ↦ absurd (omega (arith, r.0 z m, ap rank q, ap rank heads)) | inr k ↦ k ]

      from : (z : T) → Has z ys → Has z xs
      from z m = elim (g z (inr m)) [ inl q ↦ absurd (omega (arith, s.0 z m, ap rank q, ap rank heads)) | inr k ↦ k ]
