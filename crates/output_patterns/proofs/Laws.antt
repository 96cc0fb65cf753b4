-- The laws of first occurrences and of all occurrences.
use Rattle.std.proofs.Common.{◌≡◌, ℕ, zero, suc, ◌+◌, ◌≤◌, ◌<◌, List, [], ◌∷◌, ◌++◌, length, sym, ap, ◌∙◌, arith, append_assoc}
use Rattle.filter_constraints.specs.Constraint.{ConstraintParts}
use Rattle.output_patterns.specs.Pattern.{Steps, Notices, IsOccurrence, IsNoLater, IsFirst, AreAll, end_of}
use Rattle.output_patterns.specs.Scan.{advance, ended, progress, scan, occurrences_from, all_occurrences}
use Rattle.output_patterns.proofs.Occurrences.{lowered, matched-some, all-one}
use Rattle.output_patterns.proofs.Scanning.{scanned}

-- a pass over a list and then over more
pub scan-append : (steps left : Steps) (found : List ℕ) (p : ℕ) (notices more : Notices) → (let now = progress steps left found p notices in scan steps left found p (notices ++ more) ≡ scan steps left found p notices ++ scan steps now.left now.found (p + length notices) more)
scan-append steps left found p [] more = ap (λ q. scan steps left found q more) (omega arith)
scan-append steps left found p (n ∷ rest) more =
    let now = advance steps left found p n in
    let then = progress steps now.left now.found (p + 1) rest in
    let e : (p + 1) + length rest ≡ p + length (n ∷ rest) = omega arith in
    ap (λ z. ended now.left now.found ++ z) (scan-append steps now.left now.found (p + 1) rest more)
    ∙ sym (append_assoc (ended now.left now.found) (scan steps now.left now.found (p + 1) rest) (scan steps then.left then.found ((p + 1) + length rest) more))
    ∙ ap (λ q. (ended now.left now.found ++ scan steps now.left now.found (p + 1) rest) ++ scan steps then.left then.found q more) e

pub progress-append : (steps left : Steps) (found : List ℕ) (p : ℕ) (notices more : Notices) → (let now = progress steps left found p notices in progress steps left found p (notices ++ more) ≡ progress steps now.left now.found (p + length notices) more)
progress-append steps left found p [] more = ap (λ q. progress steps left found q more) (omega arith)
progress-append steps left found p (n ∷ rest) more =
    let now = advance steps left found p n in
    let then = progress steps now.left now.found (p + 1) rest in
    let e : (p + 1) + length rest ≡ p + length (n ∷ rest) = omega arith in
    progress-append steps now.left now.found (p + 1) rest more
    ∙ ap (λ q. progress steps then.left then.found q more) e

-- all occurrences of some steps
pub all-from : (steps : Steps) (notices : Notices) (s : ℕ) → 0 < length steps → 1 ≤ s → AreAll steps notices s (occurrences_from steps notices s)
unfolding occurrences_from
all-from [] notices s h k = absurd (omega (arith, h))
all-from (f ∷ steps) notices s h k = scanned f steps notices s k

pub all-scanned : (f : List ConstraintParts) (steps : Steps) (notices : Notices) → AreAll (f ∷ steps) notices 1 (scan (f ∷ steps) (f ∷ steps) [] 1 notices)
all-scanned f steps notices = scanned f steps notices 1 (omega arith)

pub all-found : (steps : Steps) (notices : Notices) → 0 < length steps → AreAll steps notices 1 (all_occurrences steps notices)
unfolding all_occurrences
all-found [] notices h = absurd (omega (arith, h))
all-found (f ∷ steps) notices h = all-scanned f steps notices

-- no steps occur without end
pub no-steps : (notices : Notices) (s : ℕ) (all : List (List ℕ)) → AreAll [] notices s all → ⊥
no-steps notices s [] h = h [] tt
no-steps notices s (places ∷ all) h = no-steps notices (end_of places + 1) all h.1

-- all occurrences in a longer list begin with those in its beginning
pub all-longer : (steps : Steps) (notices more : Notices) (a b : List (List ℕ)) → AreAll steps notices 1 a → AreAll steps (notices ++ more) 1 b → (later : List (List ℕ)) × (b ≡ a ++ later)
all-longer [] notices more a b h k = absurd (no-steps notices 1 a h)
all-longer (f ∷ steps) notices more a b h k =
    let all = f ∷ steps in
    let now = progress all all [] 1 notices in
    let later = scan all now.left now.found (1 + length notices) more in
    let e : b ≡ scan all all [] 1 (notices ++ more) = all-one all (notices ++ more) 1 b _ k (all-scanned f steps (notices ++ more)) in
    let d : scan all all [] 1 notices ≡ a = all-one all notices 1 _ a (all-scanned f steps notices) h in
    (later, e ∙ scan-append all all [] 1 notices more ∙ ap (λ z. z ++ later) d)

-- where there is an occurrence there is a first one
head-first : (steps : Steps) (notices : Notices) (s : ℕ) (places : List ℕ) (all : List (List ℕ)) → AreAll steps notices s all → IsOccurrence steps notices s places → (first : List ℕ) × IsFirst steps notices s first
head-first steps notices s places [] h o = absurd (h places o)
head-first steps notices s places (x ∷ all) h o = (x, h.0)

positive : (f : List ConstraintParts) (steps : Steps) (notices : Notices) (s : ℕ) (places : List ℕ) → IsOccurrence (f ∷ steps) notices s places → IsOccurrence (f ∷ steps) notices 1 places
positive f steps notices s [] o = o
positive f steps notices s (p ∷ places) o = (matched-some notices p f o.1, o.1, o.2)

pub first-exists : (steps : Steps) (notices : Notices) (s : ℕ) (places : List ℕ) → IsOccurrence steps notices s places → (first : List ℕ) × IsFirst steps notices s first
first-exists [] notices s places o = ([], (tt, least))
  where
    least : (other : List ℕ) → IsOccurrence [] notices s other → IsNoLater [] other
    least [] k = tt
    least (q ∷ other) k = k
first-exists (f ∷ steps) notices zero places o =
    let t = head-first (f ∷ steps) notices 1 places _ (all-scanned f steps notices) (positive f steps notices zero places o) in
    (t.0, (lowered (f ∷ steps) notices 1 zero t.0 (omega arith) t.1.0, λ other k. t.1.1 other (positive f steps notices zero other k)))
first-exists (f ∷ steps) notices (suc i) places o = head-first (f ∷ steps) notices (suc i) places _ (scanned f steps notices (suc i) (omega arith)) o
