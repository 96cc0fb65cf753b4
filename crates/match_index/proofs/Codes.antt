-- Proves that a key represents the test that it is made of.
use Rattle.std.proofs.Common.{◌≡◌, refl, Option}
use Rattle.std.specs.Prelude.{Some, None}
use Rattle.filter_values.specs.declared.value.Value.{Value}
use Rattle.filter_values.specs.declared.value.Kind.TheVariants as kinds
use Rattle.filter_values.specs.declared.value.Value.TheVariants as values
use Rattle.filter_constraints.specs.declared.op.Op.{Op}
use Rattle.filter_constraints.specs.declared.op.Op.TheVariants as ops
use Rattle.filter_constraints.specs.Constraint.{IsTest}
use Rattle.match_index.specs.Keys.{key_of, test_at}

pub encode : (op : Op) (operand : Option Value) → IsTest kinds.Str op operand → test_at op (key_of operand) ≡ record { kind = kinds.Str; op = op; operand = operand }
encode op None t = rw t refl
encode ops.Eq (Some (values.Str u)) t = refl
encode ops.Ne (Some (values.Str u)) t = refl
encode ops.Lt (Some (values.Str u)) t = refl
encode ops.Le (Some (values.Str u)) t = refl
encode ops.Gt (Some (values.Str u)) t = refl
encode ops.Ge (Some (values.Str u)) t = refl
encode ops.Any (Some (values.Str u)) t = absurd t.0
encode ops.Contains (Some (values.Str u)) t = refl
encode ops.Prefix (Some (values.Str u)) t = refl
encode ops.Suffix (Some (values.Str u)) t = refl
encode op (Some (values.Bool u)) t = absurd t
encode op (Some (values.Int u)) t = absurd t
encode op (Some (values.Time u)) t = absurd t
