-- Defines the filters of a matcher, which contracts alone see.
use Rattle.std.specs.Prelude.{List, [], ◌∷◌, ◌++◌}
use Rattle.filter_constraints.specs.Constraint.{ConstraintParts}
use Rattle.match_filters.specs.declared.listed.Filters.{Filters}
use Rattle.match_filters.specs.declared.listed.Filters.TheVariants.{Nothing, More}

abbrev pub listed : Filters → List (List ConstraintParts)
listed Nothing = []
listed (More earlier last) = earlier.value.value ++ last.value ∷ []
