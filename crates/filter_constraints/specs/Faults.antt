-- Defines the fault of parts that make no constraint.
use Rattle.std.specs.Prelude.{Bool, true, false, not, ◌&&◌, [], Some, None, if◌then◌else◌}
use Rattle.std.specs.declared.option.Option.{Option}
use Rattle.filter_values.specs.Value.{kind_of, same_kind}
use Rattle.filter_values.specs.declared.value.Kind.{Kind}
use Rattle.filter_values.specs.declared.value.Kind.TheVariants as kinds
use Rattle.filter_values.specs.declared.value.Value.{Value}
use Rattle.filter_values.specs.declared.value.Value.TheVariants as values
use Rattle.filter_constraints.specs.declared.op.Op.{Op}
use Rattle.filter_constraints.specs.declared.op.Op.TheVariants as ops
use Rattle.filter_constraints.specs.declared.constraint.BadConstraint.{BadConstraint}
use Rattle.filter_constraints.specs.declared.constraint.BadConstraint.TheVariants.{BadOp, Operand, WrongKind, EmptyPattern}

-- the kind has the operator
abbrev pub has_op : Kind → Op → Bool
has_op kind ops.Any = true
has_op kind ops.Eq = true
has_op kind ops.Ne = true
has_op kinds.Bool op = false
has_op kinds.Int ops.Contains = false
has_op kinds.Int ops.Prefix = false
has_op kinds.Int ops.Suffix = false
has_op kinds.Time ops.Contains = false
has_op kinds.Time ops.Prefix = false
has_op kinds.Time ops.Suffix = false
has_op kind op = true

-- `any` has an operand, or another operator has none
abbrev pub is_misplaced : Op → Option Value → Bool
is_misplaced ops.Any None = false
is_misplaced ops.Any (Some u) = true
is_misplaced op None = true
is_misplaced op (Some u) = false

-- there is an operand, and it is of another kind
abbrev pub is_of_other_kind : Kind → Option Value → Bool
is_of_other_kind kind None = false
is_of_other_kind kind (Some u) = not (same_kind (kind_of u) kind)

-- the operator is `contains`, `prefix` or `suffix`
abbrev pub is_pattern : Op → Bool
is_pattern ops.Contains = true
is_pattern ops.Prefix = true
is_pattern ops.Suffix = true
is_pattern op = false

-- the value is the text of no bytes
abbrev pub is_empty_text : Value → Bool
is_empty_text (values.Str []) = true
is_empty_text v = false

-- a pattern has the empty text as its operand
abbrev pub is_empty_pattern : Op → Option Value → Bool
is_empty_pattern op None = false
is_empty_pattern op (Some u) = is_pattern op && is_empty_text u

-- the first fault, in the order of their tests
abbrev pub fault_of : Kind → Op → Option Value → Option BadConstraint
fault_of kind op operand =
    if not (has_op kind op) then Some BadOp
    else if is_misplaced op operand then Some Operand
    else if is_of_other_kind kind operand then Some WrongKind
    else if is_empty_pattern op operand then Some EmptyPattern
    else None
