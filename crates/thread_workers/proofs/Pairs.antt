-- Lemmas on two lists of one length, at their ends.
use Rattle.std.proofs.Common.{◌≡◌, suc, List, [], ◌∷◌, ◌++◌, length, refl, ap}
use Rattle.thread_workers.specs.ServerWorkers.{Pairwise}

module _ {A B : Type 0} (R : A → B → Type 0) where
  -- with one more pair at the end
  pub pairs-more : (xs : List A) (ys : List B) (x : A) (y : B) → Pairwise R xs ys → R x y → Pairwise R (xs ++ x ∷ []) (ys ++ y ∷ [])
  pairs-more [] [] x y p r = (r, tt)
  pairs-more [] (b ∷ ys) x y p r = absurd p
  pairs-more (a ∷ xs) [] x y p r = absurd p
  pairs-more (a ∷ xs) (b ∷ ys) x y p r = (p.0, pairs-more xs ys x y p.1 r)

  -- without the last pair
  pub pairs-less : (xs : List A) (ys : List B) (x : A) (y : B) → Pairwise R (xs ++ x ∷ []) (ys ++ y ∷ []) → Pairwise R xs ys × R x y
  pairs-less [] [] x y p = (tt, p.0)
  pairs-less [] (b ∷ []) x y p = absurd p.1
  pairs-less [] (b ∷ c ∷ ys) x y p = absurd p.1
  pairs-less (a ∷ []) [] x y p = absurd p.1
  pairs-less (a ∷ c ∷ xs) [] x y p = absurd p.1
  pairs-less (a ∷ xs) (b ∷ ys) x y p = let q = pairs-less xs ys x y p.1 in ((p.0, q.0), q.1)

  -- they are as long
  pub pairs-long : (xs : List A) (ys : List B) → Pairwise R xs ys → length xs ≡ length ys
  pairs-long [] [] p = refl
  pairs-long [] (y ∷ ys) p = absurd p
  pairs-long (x ∷ xs) [] p = absurd p
  pairs-long (x ∷ xs) (y ∷ ys) p = ap suc (pairs-long xs ys p.1)
