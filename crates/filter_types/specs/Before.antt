-- Defines the canonical order of filters and of advertisements.
use Rattle.std.specs.Prelude.{Bool, List}
use Rattle.std.specs.Ordering.{is_lt}
use Rattle.filter_constraints.specs.Constraint.{ConstraintParts}
use Rattle.filter_constraints.specs.Order.{list_cmp}

-- f stands before g: at the first constraint that differs, or as a proper beginning
unfoldable pub list_before : List ConstraintParts → List ConstraintParts → Bool
list_before f g = is_lt (list_cmp f g)
