-- Defines constraints in front of bytes, and the filter or advertisement that bytes spell.
use Rattle.std.specs.Prelude.{ℕ, List, [], Some, None, codes, if◌then◌else◌}
use Rattle.std.specs.declared.option.Option.{Option}
use Rattle.std.specs.Str.{bytes_eq}
use Rattle.filter_values.specs.declared.value.Kind.{Kind}
use Rattle.filter_values.specs.declared.value.Value.{Value}
use Rattle.filter_constraints.specs.declared.op.Op.{Op}
use Rattle.filter_constraints.specs.declared.op.Op.TheVariants as ops
use Rattle.filter_constraints.specs.declared.constraint.BadConstraint.{BadConstraint}
use Rattle.filter_constraints.specs.Constraint.{ConstraintParts}
use Rattle.filter_constraints.specs.Faults.{fault_of}
use Rattle.filter_types.specs.Canonical.{is_listed}
use Rattle.filter_text.specs.Reading.{◌>>=◌, whole}
use Rattle.filter_text.specs.Words.{word_at, space_at, head_at}
use Rattle.filter_text.specs.Values.{value_at}
use Rattle.filter_text.specs.Items.{items_at}

-- the operator of a word
abbrev pub op_named : List ℕ → Option Op
op_named w =
    if bytes_eq w (codes "any") then Some ops.Any
    else if bytes_eq w (codes "=") then Some ops.Eq
    else if bytes_eq w (codes "!=") then Some ops.Ne
    else if bytes_eq w (codes "<") then Some ops.Lt
    else if bytes_eq w (codes "<=") then Some ops.Le
    else if bytes_eq w (codes ">") then Some ops.Gt
    else if bytes_eq w (codes ">=") then Some ops.Ge
    else if bytes_eq w (codes "prefix") then Some ops.Prefix
    else if bytes_eq w (codes "suffix") then Some ops.Suffix
    else if bytes_eq w (codes "contains") then Some ops.Contains
    else None

-- an operator in front, and what follows it
unfoldable pub op_at : List ℕ → Option (Op × List ℕ)
op_at bytes = op_named (word_at [] bytes).0 >>= λ o. Some (o, (word_at [] bytes).1)

-- a space and a value in front, and what follows them
abbrev pub some_at : Kind → List ℕ → Option (Option Value × List ℕ)
some_at kind bytes = space_at bytes >>= λ r. value_at kind r.1 >>= λ v. Some (Some v.0, v.1)

-- the operand behind an operator, and what follows it
unfoldable pub operand_at : Kind → Op → List ℕ → Option (Option Value × List ℕ)
operand_at kind ops.Any bytes = Some (None, bytes)
operand_at kind op bytes = some_at kind bytes

-- a constraint without a fault
abbrev pub made : Option BadConstraint → ConstraintParts → List ℕ → Option (ConstraintParts × List ℕ)
made None c rest = Some (c, rest)
made (Some e) c rest = None

-- a constraint in front, and what follows it
unfoldable pub constraint_at : List ℕ → Option (ConstraintParts × List ℕ)
constraint_at bytes =
    head_at bytes >>= λ h. space_at h.1 >>= λ r. op_at r.1 >>= λ o. operand_at h.0.1 o.0 o.1 >>= λ u.
    made (fault_of h.0.1 o.0 u.0) (record { name = h.0.0; kind = h.0.1; op = o.0; operand = u.0 }) u.1

-- constraints that are a list of at most so many
abbrev pub settled : ℕ → List ConstraintParts → Option (List ConstraintParts)
settled most f = if is_listed most f then Some f else None

-- a list of constraints in front, strictly rising, and what follows it
unfoldable pub list_at : ℕ → List ℕ → Option (List ConstraintParts × List ℕ)
list_at most bytes = items_at constraint_at most [] bytes >>= λ x. settled most x.0 >>= λ f. Some (f, x.1)

-- the list that the bytes spell
abbrev pub list_of : ℕ → List ℕ → Option (List ConstraintParts)
list_of most bytes = whole (list_at most bytes)
