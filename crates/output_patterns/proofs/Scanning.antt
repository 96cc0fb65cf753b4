-- Proves that one pass over the notifications finds all occurrences.
use Rattle.std.proofs.Common.{◌≡◌, ◌⊎◌, inl, inr, ℕ, zero, suc, ◌+◌, ◌-◌, ◌≤◌, Bool, true, false, Some, List, [], ◌∷◌, ◌++◌, drop, refl, sym, ap, subst, ◌∙◌, arith, append_assoc}
use Rattle.std.specs.Prelude.{slice_get}
use Rattle.filter_constraints.specs.Constraint.{ConstraintParts}
use Rattle.filter_types.specs.Notice.{Attribute}
use Rattle.filter_types.specs.Cover.{matches}
use Rattle.output_patterns.specs.Pattern.{Steps, Notices, MatchesAt, IsOccurrence, IsNoLater, IsFirst, AreAll, end_of}
use Rattle.output_patterns.specs.Scan.{take_place, ended, scan}
use Rattle.output_patterns.proofs.Occurrences.{lowered}

-- the rest of the notices from a place on: its first is at that place
at : (i : ℕ) (notices : Notices) (n : List Attribute) (rest : Notices) → drop i notices ≡ n ∷ rest → slice_get notices i ≡ Some n
at zero [] n rest e = cc
at zero (m ∷ notices) n rest e = cc
at (suc i) [] n rest e = cc
at (suc i) (m ∷ notices) n rest e = at i notices n rest e

next : (i : ℕ) (notices : Notices) (n : List Attribute) (rest : Notices) → drop i notices ≡ n ∷ rest → drop (suc i) notices ≡ rest
next zero [] n rest e = cc
next zero (m ∷ notices) n rest e = cc
next (suc i) [] n rest e = cc
next (suc i) (m ∷ notices) n rest e = next i notices n rest e

past : (i j : ℕ) (notices : Notices) (n : List Attribute) → drop i notices ≡ [] → i ≤ j → slice_get notices j ≡ Some n → ⊥
past zero j [] n e h k = cc
past zero j (m ∷ notices) n e h k = cc
past (suc i) j [] n e h k = cc
past (suc i) zero (m ∷ notices) n e h k = omega (arith, h)
past (suc i) (suc j) (m ∷ notices) n e h k = past i j notices n e (omega (arith, h)) k

-- no notice at or after the end of the notices
none-left : (i p : ℕ) (notices : Notices) (f : List ConstraintParts) → drop i notices ≡ [] → suc i ≤ p → MatchesAt notices p f → ⊥
none-left i zero notices f e h m = m
none-left i (suc j) notices f e h m = past i j notices m.0 e (omega (arith, h)) m.1

-- the notice at the next place matches or not
here : (i p : ℕ) (notices : Notices) (n : List Attribute) (rest : Notices) (f : List ConstraintParts) → p ≡ suc i → drop i notices ≡ n ∷ rest → matches n f ≡ true → MatchesAt notices p f
here i p notices n rest f w e m = subst (λ z. MatchesAt notices z f) (sym w) (n, at i notices n rest e, m)

not-here : (i p r : ℕ) (notices : Notices) (n : List Attribute) (rest : Notices) (f : List ConstraintParts) → p ≡ suc i → drop i notices ≡ n ∷ rest → matches n f ≡ false → MatchesAt notices r f → p ≤ r → p + 1 ≤ r
not-here i p zero notices n rest f w e m o h = absurd o
not-here i p (suc j) notices n rest f w e m o h = grind (arith, at i notices n rest e, o.1, o.2)

-- no occurrence from a place
abbrev pub IsNone : Steps → Notices → ℕ → Type 0
IsNone steps notices s = (places : List ℕ) → IsOccurrence steps notices s places → ⊥

-- what a pass finds from place p on, with these steps left and these places found: nothing where the steps left do not occur; else first the places found with the first occurrence of the steps left, and then all occurrences after its end
abbrev pub Finds : Steps → Notices → Steps → List ℕ → ℕ → List (List ℕ) → Type 0
Finds steps notices left found p all =
    ((all ≡ []) × IsNone left notices p)
    ⊎ ((places : List ℕ) × (later : List (List ℕ)) × (all ≡ (found ++ places) ∷ later) × IsFirst left notices p places × AreAll steps notices (end_of places + 1) later)

-- with no place found these are all occurrences
found-all : (steps : Steps) (notices : Notices) (p : ℕ) (all : List (List ℕ)) → Finds steps notices steps [] p all → AreAll steps notices p all
found-all steps notices p all (inl (e, none)) = subst (λ z. AreAll steps notices p z) (sym e) none
found-all steps notices p all (inr (places, later, e, first, rest)) = subst (λ z. AreAll steps notices p z) (sym e) (first, rest)

-- after an end a pass starts over
over : (f : List ConstraintParts) (steps : Steps) (found : List ℕ) (p : ℕ) (rest : Notices) → scan (f ∷ steps) [] found p rest ≡ scan (f ∷ steps) (f ∷ steps) [] p rest
over f steps found p [] = refl
over f steps found p (n ∷ rest) = refl

-- a step that takes the notice at place p: of the steps after it the occurrences are from the next place
taken-none : (f : List ConstraintParts) (left : Steps) (notices : Notices) (p : ℕ) → IsNone left notices (p + 1) → IsNone (f ∷ left) notices p
taken-none f left notices p none [] o = o
taken-none f left notices p none (q ∷ places) o = none places (lowered left notices (q + 1) (p + 1) places (omega (arith, o.0)) o.2)

taken-first : (f : List ConstraintParts) (left : Steps) (notices : Notices) (p : ℕ) (places : List ℕ) → MatchesAt notices p f → IsFirst left notices (p + 1) places → IsFirst (f ∷ left) notices p (p ∷ places)
taken-first f left notices p places m first = ((omega arith, m, first.0), least)
  where
    least : (other : List ℕ) → IsOccurrence (f ∷ left) notices p other → IsNoLater (p ∷ places) other
    least [] o = absurd o
    least (q ∷ other) o = (o.0, first.1 other (lowered left notices (q + 1) (p + 1) other (omega (arith, o.0)) o.2))

-- a step that does not match the notice at place p is looked for from the next
passed : (i p : ℕ) (notices : Notices) (n : List Attribute) (rest : Notices) (f : List ConstraintParts) (left : Steps) (places : List ℕ) → p ≡ suc i → drop i notices ≡ n ∷ rest → matches n f ≡ false → IsOccurrence (f ∷ left) notices p places → IsOccurrence (f ∷ left) notices (p + 1) places
passed i p notices n rest f left [] w e m o = o
passed i p notices n rest f left (q ∷ places) w e m o = (not-here i p q notices n rest f w e m o.1 o.0, o.1, o.2)

passed-first : (i p : ℕ) (notices : Notices) (n : List Attribute) (rest : Notices) (f : List ConstraintParts) (left : Steps) (places : List ℕ) → p ≡ suc i → drop i notices ≡ n ∷ rest → matches n f ≡ false → IsFirst (f ∷ left) notices (p + 1) places → IsFirst (f ∷ left) notices p places
passed-first i p notices n rest f left places w e m first = (lowered (f ∷ left) notices (p + 1) p places (omega arith) first.0, λ other o. first.1 other (passed i p notices n rest f left other w e m o))

-- an occurrence of some steps ends at the end of its rest
end-cons : (f : List ConstraintParts) (left : Steps) (notices : Notices) (p s : ℕ) (places : List ℕ) → IsOccurrence (f ∷ left) notices s places → end_of (p ∷ places) ≡ end_of places
end-cons f left notices p s [] o = absurd o
end-cons f left notices p s (q ∷ places) o = refl

module _ (f : List ConstraintParts) (steps : Steps) (notices : Notices) where
  abbrev Found : List ConstraintParts → Steps → List ℕ → ℕ → List (List ℕ) → Type 0
  Found g left found p all = Finds (f ∷ steps) notices (g ∷ left) found p all

  -- with one more place found
  longer : (g h : List ConstraintParts) (left : Steps) (found : List ℕ) (p : ℕ) (all : List (List ℕ)) → MatchesAt notices p g → Found h left (found ++ p ∷ []) (p + 1) all → Found g (h ∷ left) found p all
  longer g h left found p all m (inl (e, none)) = inl (e, taken-none g (h ∷ left) notices p none)
  longer g h left found p all m (inr (places, later, e, first, rest)) =
      inr (
        p ∷ places,
        later,
        e ∙ ap (λ z. z ∷ later) (append_assoc found (p ∷ []) places),
        taken-first g (h ∷ left) notices p places m first,
        subst (λ z. AreAll (f ∷ steps) notices (z + 1) later) (sym (end-cons h left notices p (p + 1) places first.0)) rest,
      )

  -- with the notice passed
  unmet : (i p : ℕ) (n : List Attribute) (rest : Notices) (g : List ConstraintParts) (left : Steps) (found : List ℕ) (all : List (List ℕ)) → p ≡ suc i → drop i notices ≡ n ∷ rest → matches n g ≡ false → Found g left found (p + 1) all → Found g left found p all
  unmet i p n rest g left found all w e m (inl (q, none)) = inl (q, λ places o. none places (passed i p notices n rest g left places w e m o))
  unmet i p n rest g left found all w e m (inr (places, later, q, first, r)) = inr (places, later, q, passed-first i p notices n rest g left places w e m first, r)

  nothing-after : (p : ℕ) (other : List ℕ) → IsOccurrence [] notices p other → IsNoLater [] other
  nothing-after p [] o = tt
  nothing-after p (q ∷ other) o = o

  -- the notice n at place p, where b says whether it matches the next step g
  stepped : (i p : ℕ) (n : List Attribute) (rest : Notices) (g : List ConstraintParts) (left : Steps) (found : List ℕ)
      → p ≡ suc i
      → drop i notices ≡ n ∷ rest
      → ((h : List ConstraintParts) (l : Steps) (had : List ℕ) → Found h l had (p + 1) (scan (f ∷ steps) (h ∷ l) had (p + 1) rest))
      → (b : Bool) → matches n g ≡ b
      → (let now = take_place b g left found p in Found g left found p (ended now.left now.found ++ scan (f ∷ steps) now.left now.found (p + 1) rest))
  stepped i p n rest g [] found w e further true m =
      inr (
        p ∷ [],
        scan (f ∷ steps) [] (found ++ p ∷ []) (p + 1) rest,
        refl,
        taken-first g [] notices p [] (here i p notices n rest g w e m) (tt, λ other o. nothing-after (p + 1) other o),
        subst (λ z. AreAll (f ∷ steps) notices (p + 1) z) (sym (over f steps (found ++ p ∷ []) (p + 1) rest)) (found-all (f ∷ steps) notices (p + 1) _ (further f steps [])),
      )
  stepped i p n rest g (h ∷ l) found w e further true m = longer g h l found p _ (here i p notices n rest g w e m) (further h l (found ++ p ∷ []))
  stepped i p n rest g left found w e further false m = unmet i p n rest g left found _ w e m (further g left found)

  finds : (rest : Notices) (i p : ℕ) → p ≡ suc i → drop i notices ≡ rest → (g : List ConstraintParts) (left : Steps) (found : List ℕ) → Found g left found p (scan (f ∷ steps) (g ∷ left) found p rest)
  finds [] i p w e g left found = inl (refl, none)
    where
      none : IsNone (g ∷ left) notices p
      none [] o = o
      none (q ∷ places) o = none-left i q notices g e (omega (arith, w, o.0)) o.1
  finds (n ∷ rest) i p w e g left found =
      stepped i p n rest g left found w e (λ h l had. finds rest (suc i) (p + 1) (omega (arith, w)) (next i notices n rest e) h l had) (matches n g) refl

-- a pass from place s finds all occurrences from there
pub scanned : (f : List ConstraintParts) (steps : Steps) (notices : Notices) (s : ℕ) → 1 ≤ s → AreAll (f ∷ steps) notices s (scan (f ∷ steps) (f ∷ steps) [] s (drop (s - 1) notices))
scanned f steps notices s h = found-all (f ∷ steps) notices s _ (finds f steps notices (drop (s - 1) notices) (s - 1) s (omega (arith, h)) refl f steps [])
