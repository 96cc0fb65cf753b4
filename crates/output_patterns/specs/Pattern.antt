-- Where the steps of a pattern occur in a list of notices. Each definition compares whole occurrences.
use Rattle.std.specs.Prelude.{◌≡◌, ℕ, zero, suc, ◌+◌, ◌≤◌, ◌==◌, Bool, true, List, [], ◌∷◌, Some, slice_get}
use Rattle.std.specs.List.{list_any}
use Rattle.filter_constraints.specs.Constraint.{ConstraintParts}
use Rattle.filter_types.specs.Notice.{Attribute}
use Rattle.filter_types.specs.Cover.{matches}

-- the steps of a pattern: filters, each by its constraints
abbrev pub Steps : Type 0
Steps = List (List ConstraintParts)

-- notices, each by its attributes
abbrev pub Notices : Type 0
Notices = List (List Attribute)

-- there is a notice at the place, counted from 1, and it matches the filter
abbrev pub MatchesAt : Notices → ℕ → List ConstraintParts → Type 0
MatchesAt notices zero f = ⊥
MatchesAt notices (suc i) f = (n : List Attribute) × (slice_get notices i ≡ Some n) × (matches n f ≡ true)

-- an occurrence of the steps from place s: rising places, as many as steps, each at least s, at each of which stands a notice that matches its step
abbrev pub IsOccurrence : Steps → Notices → ℕ → List ℕ → Type 0
IsOccurrence [] notices s [] = Unit {0}
IsOccurrence [] notices s (p ∷ places) = ⊥
IsOccurrence (f ∷ steps) notices s [] = ⊥
IsOccurrence (f ∷ steps) notices s (p ∷ places) = (s ≤ p) × MatchesAt notices p f × IsOccurrence steps notices (p + 1) places

-- each place of the one is at most that of the other
abbrev pub IsNoLater : List ℕ → List ℕ → Type 0
IsNoLater [] [] = Unit {0}
IsNoLater [] (q ∷ other) = ⊥
IsNoLater (p ∷ places) [] = ⊥
IsNoLater (p ∷ places) (q ∷ other) = (p ≤ q) × IsNoLater places other

-- the first occurrence from place s: each of its places is at most that of every other occurrence from there
abbrev pub IsFirst : Steps → Notices → ℕ → List ℕ → Type 0
IsFirst steps notices s places = IsOccurrence steps notices s places × ((other : List ℕ) → IsOccurrence steps notices s other → IsNoLater places other)

-- the last place of an occurrence
abbrev pub end_of : List ℕ → ℕ
end_of [] = 0
end_of (p ∷ []) = p
end_of (p ∷ q ∷ places) = end_of (q ∷ places)

-- all occurrences from place s: the first from s, then the first from the place after its end, and so on while there is one
abbrev pub AreAll : Steps → Notices → ℕ → List (List ℕ) → Type 0
AreAll steps notices s [] = (places : List ℕ) → IsOccurrence steps notices s places → ⊥
AreAll steps notices s (places ∷ later) = IsFirst steps notices s places × AreAll steps notices (end_of places + 1) later

-- all occurrences: those from place 1
abbrev pub AreAllOccurrences : Steps → Notices → List (List ℕ) → Type 0
AreAllOccurrences steps notices all = AreAll steps notices 1 all

-- one of the occurrences ends at the place
abbrev pub some_ends : List (List ℕ) → ℕ → Bool
some_ends all p = list_any (λ places. end_of places == p) all

-- what a detector is: its steps, and the notices that it was fed, in order
pub record Detected : Type 0 where
  pub steps : Steps
  pub fed : Notices
