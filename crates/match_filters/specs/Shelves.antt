-- Defines constraints by name: on a shelf those of one name, without the name.
use Rattle.std.specs.Prelude.{ℕ, List, [], ◌∷◌, Vec}
use Rattle.std.specs.declared.alloc.Global.{Global}
use Rattle.filter_constraints.specs.Constraint.{ConstraintParts}
use Rattle.match_index.specs.Pairs.{Test, Pair}
use Rattle.match_index.specs.Groups.{spread}
use Rattle.match_filters.specs.Index.{Use}

-- the constraint of a name and a test
abbrev pub constraint_of : List ℕ → Test → ConstraintParts
constraint_of name t = record { name = name; kind = t.kind; op = t.op; operand = t.operand }

-- the uses of a shelf under this name
abbrev pub named : List ℕ → List Pair → List Use
named name [] = []
named name (x ∷ rest) = (constraint_of name x.0, x.1) ∷ named name rest

-- the uses of all shelves
abbrev pub uses_of : List (Vec ℕ Global × List Pair) → List Use
uses_of shelves = spread (λ k pairs. named k.items pairs) shelves
