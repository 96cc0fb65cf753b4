-- Lemmas on lists that are taken apart from the front.
use Rattle.std.proofs.Common.{◌≡◌, ℕ, zero, suc, ◌<◌, Bool, List, [], ◌∷◌, ◌++◌, length, map, take, drop, slice_index_or, refl, sym, ap, subst, ◌∙◌, arith}
use Rattle.std.proofs.lemmas.List.{append_assoc}
use Rattle.filter_text.specs.MessageText.{Each}

pub first-out : {X : Type 0} (old new : List X) (x : X) → 0 < length old → x ≡ slice_index_or old 0 x → new ≡ take 0 old ++ drop 1 old → old ≡ x ∷ new
first-out [] new x lt e f = absurd (omega (arith, lt))
first-out (y ∷ old) new x lt e f = ap (λ z. z ∷ old) (sym e) ∙ ap (λ l. x ∷ l) (sym f)

-- what is had of the first ones, and of the rest
pub taken-one : {X Y : Type 0} (F : List X → List Y) (done new : List Y) (x : X) (y : Y) (old rest : List X) (whole : List Y) → new ≡ done ++ y ∷ []
    → F (x ∷ rest) ≡ y ∷ F rest → old ≡ x ∷ rest → done ++ F old ≡ whole → new ++ F rest ≡ whole
taken-one F done new x y old rest whole more first out so =
    ap (λ l. l ++ F rest) more ∙ append_assoc done (y ∷ []) (F rest) ∙ ap (λ l. done ++ l) (sym first) ∙ ap (λ l. done ++ F l) (sym out) ∙ so

-- what holds of all that is seen of the members holds of each
pub each-of : {X : Type 0} (f : X → Bool) (xs : List X) (seen : List Bool) (b : Bool) → map f xs ≡ seen → Each (λ s. s ≡ b) seen → (k : ℕ) (d : X) → k < length xs
    → f (slice_index_or xs k d) ≡ b
each-of f [] seen b e each k d lt = absurd (omega (arith, lt))
each-of f (x ∷ xs) seen b e each zero d lt = (subst (Each (λ s. s ≡ b)) (sym e) each).0
each-of f (x ∷ xs) seen b e each (suc k) d lt = each-of f xs (map f xs) b refl (subst (Each (λ s. s ≡ b)) (sym e) each).1 k d (omega (arith, lt))
