-- Proves that parts that are a constraint have no fault.
use Rattle.std.proofs.Common.{◌≡◌, refl, arith, [], ◌∷◌, Some, None, Option}
use Rattle.filter_values.specs.declared.value.Kind.{Kind}
use Rattle.filter_values.specs.declared.value.Kind.TheVariants as kinds
use Rattle.filter_values.specs.declared.value.Value.{Value}
use Rattle.filter_values.specs.declared.value.Value.TheVariants as values
use Rattle.filter_constraints.specs.declared.op.Op.{Op}
use Rattle.filter_constraints.specs.declared.op.Op.TheVariants as ops
use Rattle.filter_constraints.specs.Constraint.{IsTest}
use Rattle.filter_constraints.specs.Faults.{fault_of}

pub fault_none : (kind : Kind) (op : Op) (operand : Option Value) → IsTest kind op operand → fault_of kind op operand ≡ None
fault_none kind op None h = rw h refl
fault_none kinds.Bool ops.Any (Some (values.Bool u)) h = absurd h
fault_none kinds.Bool ops.Eq (Some (values.Bool u)) h = refl
fault_none kinds.Bool ops.Ne (Some (values.Bool u)) h = refl
fault_none kinds.Bool ops.Lt (Some (values.Bool u)) h = absurd h
fault_none kinds.Bool ops.Le (Some (values.Bool u)) h = absurd h
fault_none kinds.Bool ops.Gt (Some (values.Bool u)) h = absurd h
fault_none kinds.Bool ops.Ge (Some (values.Bool u)) h = absurd h
fault_none kinds.Bool ops.Prefix (Some (values.Bool u)) h = absurd h
fault_none kinds.Bool ops.Suffix (Some (values.Bool u)) h = absurd h
fault_none kinds.Bool ops.Contains (Some (values.Bool u)) h = absurd h
fault_none kinds.Bool op (Some (values.Int u)) h = absurd h
fault_none kinds.Bool op (Some (values.Str u)) h = absurd h
fault_none kinds.Int op (Some (values.Bool u)) h = absurd h
fault_none kinds.Int ops.Any (Some (values.Int u)) h = absurd h.0
fault_none kinds.Int ops.Eq (Some (values.Int u)) h = refl
fault_none kinds.Int ops.Ne (Some (values.Int u)) h = refl
fault_none kinds.Int ops.Lt (Some (values.Int u)) h = refl
fault_none kinds.Int ops.Le (Some (values.Int u)) h = refl
fault_none kinds.Int ops.Gt (Some (values.Int u)) h = refl
fault_none kinds.Int ops.Ge (Some (values.Int u)) h = refl
fault_none kinds.Int ops.Prefix (Some (values.Int u)) h = absurd h.0
fault_none kinds.Int ops.Suffix (Some (values.Int u)) h = absurd h.0
fault_none kinds.Int ops.Contains (Some (values.Int u)) h = absurd h.0
fault_none kinds.Int op (Some (values.Str u)) h = absurd h
fault_none kinds.Str op (Some (values.Bool u)) h = absurd h
fault_none kinds.Str op (Some (values.Int u)) h = absurd h
fault_none kinds.Str ops.Any (Some (values.Str u)) h = absurd h.0
fault_none kinds.Str ops.Eq (Some (values.Str u)) h = refl
fault_none kinds.Str ops.Ne (Some (values.Str u)) h = refl
fault_none kinds.Str ops.Lt (Some (values.Str u)) h = refl
fault_none kinds.Str ops.Le (Some (values.Str u)) h = refl
fault_none kinds.Str ops.Gt (Some (values.Str u)) h = refl
fault_none kinds.Str ops.Ge (Some (values.Str u)) h = refl
fault_none kinds.Str ops.Prefix (Some (values.Str [])) h = absurd (omega (arith, h.0))
fault_none kinds.Str ops.Prefix (Some (values.Str (b ∷ u))) h = refl
fault_none kinds.Str ops.Suffix (Some (values.Str [])) h = absurd (omega (arith, h.0))
fault_none kinds.Str ops.Suffix (Some (values.Str (b ∷ u))) h = refl
fault_none kinds.Str ops.Contains (Some (values.Str [])) h = absurd (omega (arith, h.0))
fault_none kinds.Str ops.Contains (Some (values.Str (b ∷ u))) h = refl
fault_none kinds.Time ops.Any (Some (values.Time u)) h = absurd h.0
fault_none kinds.Time ops.Eq (Some (values.Time u)) h = refl
fault_none kinds.Time ops.Ne (Some (values.Time u)) h = refl
fault_none kinds.Time ops.Lt (Some (values.Time u)) h = refl
fault_none kinds.Time ops.Le (Some (values.Time u)) h = refl
fault_none kinds.Time ops.Gt (Some (values.Time u)) h = refl
fault_none kinds.Time ops.Ge (Some (values.Time u)) h = refl
fault_none kinds.Time ops.Prefix (Some (values.Time u)) h = absurd h.0
fault_none kinds.Time ops.Suffix (Some (values.Time u)) h = absurd h.0
fault_none kinds.Time ops.Contains (Some (values.Time u)) h = absurd h.0
fault_none kinds.Time op (Some (values.Bool u)) h = absurd h
fault_none kinds.Time op (Some (values.Int u)) h = absurd h
fault_none kinds.Time op (Some (values.Str u)) h = absurd h
fault_none kinds.Bool op (Some (values.Time u)) h = absurd h
fault_none kinds.Int op (Some (values.Time u)) h = absurd h
fault_none kinds.Str op (Some (values.Time u)) h = absurd h
