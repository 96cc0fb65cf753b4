-- Occurrences by their start, and how few are first.
use Rattle.std.proofs.Common.{◌≡◌, ℕ, zero, suc, ◌+◌, ◌≤◌, List, [], ◌∷◌, refl, sym, ap, subst, ◌∙◌, arith}
use Rattle.filter_constraints.specs.Constraint.{ConstraintParts}
use Rattle.output_patterns.specs.Pattern.{Steps, Notices, MatchesAt, IsOccurrence, IsNoLater, IsFirst, AreAll, end_of}

-- what occurs from a place occurs from each earlier one
pub lowered : (steps : Steps) (notices : Notices) (s t : ℕ) (places : List ℕ) → t ≤ s → IsOccurrence steps notices s places → IsOccurrence steps notices t places
lowered [] notices s t [] h o = o
lowered [] notices s t (p ∷ places) h o = o
lowered (f ∷ steps) notices s t [] h o = o
lowered (f ∷ steps) notices s t (p ∷ places) h o = (omega (arith, h, o.0), o.1, o.2)

-- places that are at most each other are equal
pub no-later-equal : (a b : List ℕ) → IsNoLater a b → IsNoLater b a → a ≡ b
no-later-equal [] [] h k = refl
no-later-equal [] (q ∷ b) h k = absurd h
no-later-equal (p ∷ a) [] h k = absurd h
no-later-equal (p ∷ a) (q ∷ b) h k =
    let e : p ≡ q = omega (arith, h.0, k.0) in
    ap (λ z. z ∷ a) e ∙ ap (λ z. q ∷ z) (no-later-equal a b h.1 k.1)

-- one is first
pub first-one : (steps : Steps) (notices : Notices) (s : ℕ) (a b : List ℕ) → IsFirst steps notices s a → IsFirst steps notices s b → a ≡ b
first-one steps notices s a b h k = no-later-equal a b (h.1 b k.0) (k.1 a h.0)

-- one list is that of all occurrences
pub all-one : (steps : Steps) (notices : Notices) (s : ℕ) (a b : List (List ℕ)) → AreAll steps notices s a → AreAll steps notices s b → a ≡ b
all-one steps notices s [] [] h k = refl
all-one steps notices s [] (y ∷ b) h k = absurd (h y k.0.0)
all-one steps notices s (x ∷ a) [] h k = absurd (k x h.0.0)
all-one steps notices s (x ∷ a) (y ∷ b) h k =
    let e : x ≡ y = first-one steps notices s x y h.0 k.0 in
    let moved : AreAll steps notices (end_of x + 1) b = subst (λ z. AreAll steps notices (end_of z + 1) b) (sym e) k.1 in
    ap (λ z. z ∷ a) e ∙ ap (λ z. y ∷ z) (all-one steps notices (end_of x + 1) a b h.1 moved)

-- a matching place is not 0
pub matched-some : (notices : Notices) (p : ℕ) (f : List ConstraintParts) → MatchesAt notices p f → 1 ≤ p
matched-some notices zero f h = absurd h
matched-some notices (suc i) f h = omega arith
