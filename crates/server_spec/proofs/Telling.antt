-- Proves which text the difference between two rows has.
use Rattle.std.proofs.Common.{◌≡◌, inl, inr, ℕ, ◌+◌, List, [], ◌∷◌, ◌++◌, take, slice_get, Some, sym, subst, add-one}
use Rattle.base.specs.Sets.{Has}
use Rattle.base.proofs.Lists.{take-suc-some}

-- what holds of the first so many and of the next one holds of one more
pub next-has : {P : ℕ → Type 0} (xs : List ℕ) (n x : ℕ) → slice_get xs n ≡ Some x → ((y : ℕ) → Has y (take n xs) → P y) → P x → (y : ℕ) → Has y (take (n + 1) xs) → P y
next-has {P} xs n x at done now = rw (add-one, take-suc-some xs n x at) (last (take n xs) done)
  where
    last : (ys : List ℕ) → ((y : ℕ) → Has y ys → P y) → (y : ℕ) → Has y (ys ++ x ∷ []) → P y
    last [] d y (inl q) = subst P (sym q) now
    last [] d y (inr r) = absurd r
    last (z ∷ ys) d y (inl q) = d y (inl q)
    last (z ∷ ys) d y (inr r) = last ys (λ w m. d w (inr m)) y r
