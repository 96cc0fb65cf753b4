-- Defines the parts of a filter: its constraints on one name and kind are one part, and a pattern of strs is one by itself.
use Rattle.std.specs.Prelude.{ℕ, ◌+◌, ◌&&◌, ◌||◌, Bool, not, cond, nat_lt, nat_eq, List, [], ◌∷◌}
use Rattle.std.specs.List.{list_any}
use Rattle.std.specs.Str.{bytes_eq}
use Rattle.filter_values.specs.Value.{kind_of, same_kind}
use Rattle.filter_values.specs.declared.value.Kind.TheVariants as kinds
use Rattle.filter_constraints.specs.Constraint.{ConstraintParts, same_subject, satisfies}
use Rattle.filter_types.specs.Notice.{Attribute}
use Rattle.match_index.specs.Pairs.{tally}
use Rattle.match_index.specs.Heads.{is_pattern_op}

-- the constraint is a part by itself
abbrev pub is_alone : ConstraintParts → Bool
is_alone c = same_kind c.kind kinds.Str && is_pattern_op c.op

-- the constraint belongs to the part on the name and the kind of the attribute
abbrev pub is_on : Attribute → ConstraintParts → Bool
is_on a c = not (is_alone c) && (bytes_eq a.0 c.name && same_kind (kind_of a.1) c.kind)

-- two constraints belong to one part
abbrev pub is_beside : ConstraintParts → ConstraintParts → Bool
is_beside c d = not (is_alone d) && same_subject c d

-- the constraint is a part by itself, or no later one belongs to its part
abbrev pub ends_part : ConstraintParts → List ConstraintParts → Bool
ends_part c later = is_alone c || not (list_any (is_beside c) later)

-- how many parts the constraints make
abbrev pub parts_of : List ConstraintParts → ℕ
parts_of [] = 0
parts_of (c ∷ later) = cond (ends_part c later) 1 0 + parts_of later

-- the constraint belongs to the part on the attribute, which doesn't satisfy it
abbrev pub is_missed : Attribute → ConstraintParts → Bool
is_missed a c = is_on a c && not (satisfies c a.1)

-- there are constraints in the part on the attribute, and it satisfies them all
abbrev pub is_part_met : List ConstraintParts → Attribute → Bool
is_part_met f a = nat_lt 0 (tally (is_on a) f) && nat_eq (tally (is_missed a) f) 0
