-- The passes of a lock, one by one, and its workers' seats.
use Rattle.std.proofs.Common.{◌≡◌, ◌<◌, ◌+◌, ℕ, zero, suc, List, [], ◌∷◌, ◌++◌, length, All, slice_index_or, refl, ap, subst, arith}
use Rattle.std.proofs.lemmas.List.{length-append}

module _ {X : Type 0} where
  read-left : (xs : List X) (y : X) (k : ℕ) (d : X) → k < length xs → slice_index_or (xs ++ y ∷ []) k d ≡ slice_index_or xs k d
  read-left [] y k d lt = absurd (omega (arith, lt))
  read-left (x ∷ xs) y zero d lt = refl
  read-left (x ∷ xs) y (suc k) d lt = read-left xs y k d (omega (arith, lt))

  read-last : (xs : List X) (y : X) (d : X) → slice_index_or (xs ++ y ∷ []) (length xs) d ≡ y
  read-last [] y d = refl
  read-last (x ∷ xs) y d = read-last xs y d

  -- without the last one
  pub all-less : (P : X → Type 0) (all xs : List X) (y : X) → all ≡ xs ++ y ∷ [] → All P all → All P xs × P y
  all-less P all xs y e a =
      let b : All P (xs ++ y ∷ []) = subst (All P) e a in (
        (λ k d lt. subst P (read-left xs y k d lt) (b k d (omega (arith, lt, length-append xs (y ∷ []))))),
        subst P (read-last xs y y) (b (length xs) y (omega (arith, length-append xs (y ∷ [])))),
      )

  pub shorter : (all xs : List X) (y : X) → all ≡ xs ++ y ∷ [] → length all ≡ length xs + 1
  shorter all xs y e = let a = ap length e in omega (arith, a, length-append xs (y ∷ []))

  -- one more at the end
  pub all-more : (P : X → Type 0) (xs : List X) (y : X) → All P xs → P y → All P (xs ++ y ∷ [])
  all-more P [] y a p zero d lt = p
  all-more P [] y a p (suc k) d lt = absurd (omega (arith, lt))
  all-more P (x ∷ xs) y a p zero d lt = a 0 d (omega arith)
  all-more P (x ∷ xs) y a p (suc k) d lt = all-more P xs y (λ j e l. a (suc j) e (omega (arith, l))) p k d (omega (arith, lt))

  -- three passes, of which two are given away
  pub one-left : (all two one : List X) (y z : X) → all ≡ two ++ y ∷ [] → two ≡ one ++ z ∷ [] → length all ≡ 3 → length one ≡ 1
  one-left all two one y z e f n = let a = shorter all two y e in let b = shorter two one z f in omega (arith, a, b, n)
