-- Defines the canonical order of constraints and of lists of them.
use Rattle.std.specs.Prelude.{ℕ, List}
use Rattle.std.specs.declared.cmp.Ordering.{Ordering}
use Rattle.std.specs.Ordering.{nat_cmp, then_cmp, on}
use Rattle.std.specs.Option.{option_cmp}
use Rattle.std.specs.Cmp.Lexicographic.{slice_cmp}
use Rattle.filter_values.specs.Order.{kind_cmp, value_cmp}
use Rattle.filter_constraints.specs.declared.op.Op.{Op}
use Rattle.filter_constraints.specs.declared.op.Op.TheVariants as ops
use Rattle.filter_constraints.specs.Constraint.{ConstraintParts}

-- the place of an operator in the order != < <= = > >= any contains prefix suffix
abbrev pub op_rank : Op → ℕ
op_rank ops.Ne = 0
op_rank ops.Lt = 1
op_rank ops.Le = 2
op_rank ops.Eq = 3
op_rank ops.Gt = 4
op_rank ops.Ge = 5
op_rank ops.Any = 6
op_rank ops.Contains = 7
op_rank ops.Prefix = 8
op_rank ops.Suffix = 9

-- operators compare by their places
abbrev pub op_cmp : Op → Op → Ordering
op_cmp = on op_rank nat_cmp

-- by name, then by kind, by operator, by operand, where no operand comes first
abbrev pub constraint_cmp : ConstraintParts → ConstraintParts → Ordering
constraint_cmp = then_cmp (on (λ c. c.name) (slice_cmp nat_cmp))
    (then_cmp (on (λ c. c.kind) kind_cmp) (then_cmp (on (λ c. c.op) op_cmp) (on (λ c. c.operand) (option_cmp value_cmp))))

-- constraint by constraint, a proper prefix being less
abbrev pub list_cmp : List ConstraintParts → List ConstraintParts → Ordering
list_cmp = slice_cmp constraint_cmp
