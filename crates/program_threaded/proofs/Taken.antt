-- What a loop over an owned list has taken by its end.
use Rattle.std.proofs.Common.{◌≡◌, List, [], ◌∷◌, ◌++◌, append-nil, length, refl, sym, ap, ◌∙◌, arith}
use Rattle.std.specs.Iterator.{Yields}
use Rattle.std.specs.Vec.Iter.{into_iter_items, into_iter_len, into_iter_steps}
use Rattle.std.specs.declared.vec.IntoIter.{IntoIter}

none : {X : Type 0} (xs : List X) → length xs ≡ 0 → xs ≡ []
none [] e = refl
none (x ∷ xs) e = absurd (omega (arith, e))

taken-front : {X A : Type 0} (s : IntoIter X A) (xs : List X) (t : IntoIter X A) → Yields into_iter_steps s xs t → into_iter_items s ≡ xs ++ into_iter_items t
taken-front s [] t y = ap into_iter_items y
taken-front s (x ∷ xs) t y = y.1.0 ∙ ap (λ ys. x ∷ ys) (taken-front y.0 xs t y.2)

-- what an iterator has given when nothing is left is all that it had
pub taken-all : {X A : Type 0} (s : IntoIter X A) (xs : List X) (t : IntoIter X A) → Yields into_iter_steps s xs t → into_iter_len t ≡ 0 → into_iter_items s ≡ xs
taken-all s xs t y e = taken-front s xs t y ∙ (ap (λ ys. xs ++ ys) (none (into_iter_items t) (sym t.rest.ok.0 ∙ e)) ∙ append-nil xs)
