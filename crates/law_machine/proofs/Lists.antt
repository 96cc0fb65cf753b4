-- Lemmas on lists and numbers.
use Rattle.std.proofs.Common.{◌≡◌, ℕ, zero, suc, List, [], ◌∷◌, ◌++◌, ◌⊎◌, inl, inr, length, slice_get, Some, refl, sym, ap, ◌∙◌, ne_eqb, eq-eqb, append-nil, append_assoc}
use Rattle.law_machine.specs.Machine.{Has, at}
use Rattle.law_machine.specs.Journals.{IsPrefix}
use Rattle.std.proofs.Math.Path.{fun_ext}
use Rattle.base.proofs.Sets.{get-has}
pub use Rattle.std.proofs.Common.{append-nil as append-nothing, append_assoc as append-together}
pub use Rattle.base.proofs.Numbers.{Same, Is, Not, compare}

pub at-same : {X : Type 0} (f : ℕ → X) (k : ℕ) (x : X) → at f k x k ≡ x
at-same f k x = rw (eq-eqb k k refl) refl

pub at-other : {X : Type 0} (f : ℕ → X) (k : ℕ) (x : X) (j : ℕ) → (j ≡ k → ⊥) → at f k x j ≡ f j
at-other f k x j n = rw (ne_eqb j k n) refl

pub prefix-trans : {X : Type 0} (xs ys zs : List X) → IsPrefix xs ys → IsPrefix ys zs → IsPrefix xs zs
prefix-trans xs ys zs p q = (p.0 ++ q.0, sym (append_assoc xs p.0 q.0) ∙ ap (λ z. z ++ q.0) p.1 ∙ q.1)

pub prefix-self : {X : Type 0} (xs : List X) → IsPrefix xs xs
prefix-self xs = ([], append-nil xs)

-- the place just after xs
pub get-after : {X : Type 0} (xs : List X) (x : X) (zs : List X) → slice_get (xs ++ (x ∷ zs)) (length xs) ≡ Some x
get-after [] x zs = refl
get-after (y ∷ xs) x zs = get-after xs x zs

-- what stands in a list at a place stands in its beginning, where the rest is another kind
pub get-front : {X : Type 0} (xs ys : List X) (k : ℕ) (x : X) → slice_get (xs ++ ys) k ≡ Some x → (Has x ys → ⊥) → slice_get xs k ≡ Some x
get-front [] ys k x e n = absurd (n (get-has ys k x e))
get-front (z ∷ xs) ys zero x e n = e
get-front (z ∷ xs) ys (suc k) x e n = get-front xs ys k x e n
