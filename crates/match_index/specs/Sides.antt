-- Defines the sides of a value that operators ask for.
use Rattle.std.specs.Prelude.{Bool, true, false}
use Rattle.filter_constraints.specs.declared.op.Op.{Op}
use Rattle.filter_constraints.specs.declared.op.Op.TheVariants as ops
use Rattle.match_index.specs.declared.sides.Sides.{Sides}

-- whether operands below a value are asked for, one that is equal, and those above
abbrev pub asked : Bool → Bool → Bool → Sides
asked below equal above = record { below = below; equal = equal; above = above }

-- where the operands stand, beside a value, that it satisfies under the operator
abbrev pub sides_of : Op → Sides
sides_of ops.Eq = asked false true false
sides_of ops.Ne = asked true false true
sides_of ops.Lt = asked false false true
sides_of ops.Le = asked false true true
sides_of ops.Gt = asked true false false
sides_of ops.Ge = asked true true false
sides_of op = asked false false false
