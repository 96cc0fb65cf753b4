-- Proves that a key represents the test that it is made of.
use Rattle.std.proofs.Common.{◌≡◌, ◌⊎◌, ◌+ℤ◌, ◌^◌, inl, inr, ap, ℕ, true, false, refl, pos, Option}
use Rattle.std.specs.Prelude.{Some, None}
use Rattle.std.proofs.Math.IntN as IntN
use Rattle.filter_values.specs.declared.value.Kind.{Kind}
use Rattle.filter_values.specs.declared.value.Value.{Value}
use Rattle.filter_values.specs.declared.value.Kind.TheVariants as kinds
use Rattle.filter_values.specs.declared.value.Value.TheVariants as values
use Rattle.filter_constraints.specs.declared.op.Op.{Op}
use Rattle.filter_constraints.specs.declared.op.Op.TheVariants as ops
use Rattle.filter_constraints.specs.Constraint.{IsTest}
use Rattle.match_numbers.specs.Keys.{key_of, test_at, time_test, time_key}

abbrev IsNumber : Kind → Type 0
IsNumber kind = (kind ≡ kinds.Int) ⊎ ((kind ≡ kinds.Bool) ⊎ (kind ≡ kinds.Time))

no_text : IsNumber kinds.Str → ⊥
no_text (inl e) = cc
no_text (inr (inl e)) = cc
no_text (inr (inr e)) = cc

-- the key of a time says the time
time-said : (op : Op) (n : ℕ) → time_test op (time_key n +ℤ pos (2 ^ 63)) ≡ record { kind = kinds.Time; op = op; operand = Some (values.Time n) }
time-said op n = ap (time_test op) (IntN.-ℤ-+ℤ_cancel (pos n) (pos (2 ^ 63)))

pub encode : (kind : Kind) (op : Op) (operand : Option Value) → IsNumber kind → IsTest kind op operand → test_at kind op (key_of operand) ≡ record { kind = kind; op = op; operand = operand }
encode kinds.Str op operand n t = absurd (no_text n)
encode kinds.Int op None n t = rw t refl
encode kinds.Bool op None n t = rw t refl
encode kinds.Int ops.Eq (Some (values.Int u)) n t = refl
encode kinds.Int ops.Ne (Some (values.Int u)) n t = refl
encode kinds.Int ops.Lt (Some (values.Int u)) n t = refl
encode kinds.Int ops.Le (Some (values.Int u)) n t = refl
encode kinds.Int ops.Gt (Some (values.Int u)) n t = refl
encode kinds.Int ops.Ge (Some (values.Int u)) n t = refl
encode kinds.Int ops.Any (Some (values.Int u)) n t = absurd t.0
encode kinds.Int ops.Contains (Some (values.Int u)) n t = absurd t.0
encode kinds.Int ops.Prefix (Some (values.Int u)) n t = absurd t.0
encode kinds.Int ops.Suffix (Some (values.Int u)) n t = absurd t.0
encode kinds.Time op None n t = rw t refl
encode kinds.Time ops.Eq (Some (values.Time u)) n t = time-said ops.Eq u
encode kinds.Time ops.Ne (Some (values.Time u)) n t = time-said ops.Ne u
encode kinds.Time ops.Lt (Some (values.Time u)) n t = time-said ops.Lt u
encode kinds.Time ops.Le (Some (values.Time u)) n t = time-said ops.Le u
encode kinds.Time ops.Gt (Some (values.Time u)) n t = time-said ops.Gt u
encode kinds.Time ops.Ge (Some (values.Time u)) n t = time-said ops.Ge u
encode kinds.Time ops.Any (Some (values.Time u)) n t = absurd t.0
encode kinds.Time ops.Contains (Some (values.Time u)) n t = absurd t.0
encode kinds.Time ops.Prefix (Some (values.Time u)) n t = absurd t.0
encode kinds.Time ops.Suffix (Some (values.Time u)) n t = absurd t.0
encode kinds.Time op (Some (values.Bool u)) n t = absurd t
encode kinds.Time op (Some (values.Int u)) n t = absurd t
encode kinds.Time op (Some (values.Str u)) n t = absurd t
encode kinds.Int op (Some (values.Time u)) n t = absurd t
encode kinds.Bool op (Some (values.Time u)) n t = absurd t
encode kinds.Int op (Some (values.Bool u)) n t = absurd t
encode kinds.Int op (Some (values.Str u)) n t = absurd t
encode kinds.Bool ops.Eq (Some (values.Bool true)) n t = refl
encode kinds.Bool ops.Eq (Some (values.Bool false)) n t = refl
encode kinds.Bool ops.Ne (Some (values.Bool true)) n t = refl
encode kinds.Bool ops.Ne (Some (values.Bool false)) n t = refl
encode kinds.Bool ops.Lt (Some (values.Bool u)) n t = absurd t
encode kinds.Bool ops.Le (Some (values.Bool u)) n t = absurd t
encode kinds.Bool ops.Gt (Some (values.Bool u)) n t = absurd t
encode kinds.Bool ops.Ge (Some (values.Bool u)) n t = absurd t
encode kinds.Bool ops.Any (Some (values.Bool u)) n t = absurd t
encode kinds.Bool ops.Contains (Some (values.Bool u)) n t = absurd t
encode kinds.Bool ops.Prefix (Some (values.Bool u)) n t = absurd t
encode kinds.Bool ops.Suffix (Some (values.Bool u)) n t = absurd t
encode kinds.Bool op (Some (values.Int u)) n t = absurd t
encode kinds.Bool op (Some (values.Str u)) n t = absurd t
