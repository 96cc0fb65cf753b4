-- Defines the constraints of all filters, each with the number of its filter.
use Rattle.std.specs.Prelude.{ℕ, Bool, List, [], ◌∷◌, if◌then◌else◌}
use Rattle.filter_constraints.specs.Constraint.{ConstraintParts}
use Rattle.filter_types.specs.Notice.{Attribute, attribute_at}
use Rattle.filter_types.specs.Cover.{attribute_satisfies}

-- a constraint with the number of the filter that has it
abbrev pub Use : Type 0
Use = ConstraintParts × ℕ

-- the notice satisfies the constraint
abbrev pub is_satisfied : List Attribute → ConstraintParts → Bool
is_satisfied n c = attribute_satisfies (attribute_at n c.name) c

-- the numbers of the filters whose constraints the notice satisfies, once a constraint
abbrev pub ids_satisfied : List Attribute → List Use → List ℕ
ids_satisfied n [] = []
ids_satisfied n (x ∷ rest) = if is_satisfied n x.0 then x.1 ∷ ids_satisfied n rest else ids_satisfied n rest
