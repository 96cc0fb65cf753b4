-- Defines the constraints of a filter, each with the number of the filter.
use Rattle.std.specs.Prelude.{ℕ, List, map}
use Rattle.filter_constraints.specs.Constraint.{ConstraintParts}
use Rattle.match_filters.specs.Index.{Use}

-- a filter's constraints, each with the filter's number
abbrev pub numbered : ℕ → List ConstraintParts → List Use
numbered id constraints = map (λ c. (c, id)) constraints
