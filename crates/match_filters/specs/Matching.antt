-- Defines filters by numbers: a filter's number is its place in a list.
use Rattle.std.specs.Prelude.{ℕ, suc, List, [], ◌∷◌, if◌then◌else◌}
use Rattle.filter_constraints.specs.Constraint.{ConstraintParts}
use Rattle.filter_types.specs.Notice.{Attribute}
use Rattle.filter_types.specs.Cover.{matches}

-- the numbers, counted on from i, of the filters that the notice matches
abbrev pub matched_from : List Attribute → ℕ → List (List ConstraintParts) → List ℕ
matched_from n i [] = []
matched_from n i (f ∷ rest) = if matches n f then i ∷ matched_from n (suc i) rest else matched_from n (suc i) rest

-- the numbers of the filters that the notice matches, rising
unfoldable pub matched : List Attribute → List (List ConstraintParts) → List ℕ
matched n filters = matched_from n 0 filters
