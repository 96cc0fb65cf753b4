-- Defines the occurrences that one pass over the notices finds: each step takes the next notice that matches it.
use Rattle.std.specs.Prelude.{◌≡◌, ◌≤◌, length, ℕ, ◌+◌, ◌-◌, Bool, true, false, if◌then◌else◌, List, [], ◌∷◌, ◌++◌, drop}
use Rattle.filter_constraints.specs.Constraint.{ConstraintParts}
use Rattle.filter_types.specs.Notice.{Attribute}
use Rattle.filter_types.specs.Cover.{matches}
use Rattle.output_patterns.specs.Pattern.{Steps, Notices}

-- how far a pass is within an occurrence: the steps that are left, and the places found for those before
pub record Progress : Type 0 where
  pub left : Steps
  pub found : List ℕ

-- the next step takes the place, or it does not
abbrev pub take_place : Bool → List ConstraintParts → Steps → List ℕ → ℕ → Progress
take_place true f later found p = record { left = later; found = found ++ p ∷ [] }
take_place false f later found p = record { left = f ∷ later; found = found }

-- the notice at place p comes, where some steps are left
abbrev pub meet : Steps → List ℕ → ℕ → List Attribute → Progress
meet [] found p n = record { left = []; found = found }
meet (f ∷ later) found p n = take_place (matches n f) f later found p

-- the notice at place p comes; after an end the pass starts over
abbrev pub advance : Steps → Steps → List ℕ → ℕ → List Attribute → Progress
advance steps [] found p n = meet steps [] p n
advance steps (f ∷ later) found p n = meet (f ∷ later) found p n

-- no step is left
abbrev pub is_over : Steps → Bool
is_over [] = true
is_over (f ∷ later) = false

-- the occurrence that has just ended
abbrev pub ended : Steps → List ℕ → List (List ℕ)
ended left found = if is_over left then found ∷ [] else []

-- how far the pass is after the notices, the first of which is at place p
abbrev pub progress : Steps → Steps → List ℕ → ℕ → Notices → Progress
progress steps left found p [] = record { left = left; found = found }
progress steps left found p (n ∷ rest) =
    let now = advance steps left found p n in
    progress steps now.left now.found (p + 1) rest

-- the occurrences that end within the notices
abbrev pub scan : Steps → Steps → List ℕ → ℕ → Notices → List (List ℕ)
scan steps left found p [] = []
scan steps left found p (n ∷ rest) =
    let now = advance steps left found p n in
    ended now.left now.found ++ scan steps now.left now.found (p + 1) rest

-- the occurrences from place s on
unfoldable pub occurrences_from : Steps → Notices → ℕ → List (List ℕ)
occurrences_from steps notices s = scan steps steps [] s (drop (s - 1) notices)

-- all occurrences
unfoldable pub all_occurrences : Steps → Notices → List (List ℕ)
all_occurrences steps notices = scan steps steps [] 1 notices

-- what a detector keeps of the notices fed: of a pass over all of them the places found since the last end, how many there were, and room for the places
pub record IsScanned (steps : Steps) (notices : Notices) (places : List ℕ) (number : ℕ) (capacity : ℕ) : Type 0 where
  pub some : 2 ≤ length steps
  pub few : length steps ≤ 8
  pub within : length places ≤ length steps
  pub room : length steps ≤ capacity
  pub counted : number ≡ length notices
  pub found : (progress steps steps [] 1 notices).found ≡ places
  pub left : (progress steps steps [] 1 notices).left ≡ drop (length places) steps
