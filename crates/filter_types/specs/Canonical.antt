-- Defines the canonical list of constraints: strictly rising in their canonical order, each once.
use Rattle.std.specs.Prelude.{◌≡◌, Bool, true, false, MatchOption, ◌&&◌, nat_lt, nat_le, ℕ, ◌<◌, ◌≤◌, length, List, [], ◌∷◌}
use Rattle.std.specs.declared.option.Option.{Option}
use Rattle.std.specs.declared.cmp.Ordering.{Ordering}
use Rattle.std.specs.declared.cmp.Ordering.TheVariants.{Less, Equal, Greater}
use Rattle.std.specs.Ordering.{is_lt}
use Rattle.filter_constraints.specs.Constraint.{ConstraintParts, IsConstraint}
use Rattle.filter_constraints.specs.Order.{constraint_cmp}

-- c at its place before d, at d, or later
abbrev pub placed : Ordering → ConstraintParts → ConstraintParts → List ConstraintParts → List ConstraintParts → List ConstraintParts
placed Less c d rest later = c ∷ d ∷ rest
placed Equal c d rest later = d ∷ rest
placed Greater c d rest later = d ∷ later

-- c put in its place of a rising list, where it is not there
abbrev pub put : ConstraintParts → List ConstraintParts → List ConstraintParts
put c [] = c ∷ []
put c (d ∷ rest) = placed (constraint_cmp c d) c d rest (put c rest)

-- the same constraints, each once, rising
unfoldable pub canonical : List ConstraintParts → List ConstraintParts
canonical [] = []
canonical (c ∷ rest) = put c (canonical rest)

-- each of the list is above c
abbrev pub IsBelow : ConstraintParts → List ConstraintParts → Type 0
IsBelow c [] = Unit {0}
IsBelow c (d ∷ rest) = (constraint_cmp c d ≡ Less) × IsBelow c rest

-- each constraint stands before all later ones, in the canonical order
abbrev pub AreInCanonicalOrder : List ConstraintParts → Type 0
AreInCanonicalOrder [] = Unit {0}
AreInCanonicalOrder (c ∷ rest) = IsBelow c rest × AreInCanonicalOrder rest

-- each is a constraint that can be made
abbrev pub AreConstraints : List ConstraintParts → Type 0
AreConstraints [] = Unit {0}
AreConstraints (c ∷ rest) = IsConstraint c × AreConstraints rest

-- what every filter (of at most 16) and every advertisement (of at most 64) is: a strictly rising list of 1 to this many constraints
pub record IsListed (most : ℕ) (constraints : List ConstraintParts) : Type 0 where
  pub rising : AreInCanonicalOrder constraints
  pub some : 0 < length constraints
  pub few : length constraints ≤ most
  pub whole : AreConstraints constraints

-- the same of the number and the order of the constraints, as tests
abbrev pub is_rising : List ConstraintParts → Bool
is_rising [] = true
is_rising (c ∷ []) = true
is_rising (c ∷ d ∷ rest) = is_lt (constraint_cmp c d) && is_rising (d ∷ rest)

-- 1 to this many constraints, strictly rising
unfoldable pub is_listed : ℕ → List ConstraintParts → Bool
is_listed most constraints = nat_lt 0 (length constraints) && (nat_le (length constraints) most && is_rising constraints)

-- the answer is the list itself where it is such a list, and none where it isn't
abbrev pub IsListedAnswer : ℕ → List ConstraintParts → Option (List ConstraintParts) → Type 0
IsListedAnswer most given answer = MatchOption answer (is_listed most given ≡ false) (λ f. (f ≡ given) × (is_listed most given ≡ true))
