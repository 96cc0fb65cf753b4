-- An operand on a side that its operator asks for is one that the value meets.
use Rattle.std.proofs.Common.{◌≡◌, ◌∙◌, ℕ, ℤ, Bool, true, false, Some, None, refl, ap, subst, inl, inr}
use Rattle.std.specs.declared.option.Option.{Option}
use Rattle.std.specs.declared.cmp.Ordering.{Ordering}
use Rattle.std.specs.declared.cmp.Ordering.TheVariants.{Less, Equal, Greater}
use Rattle.std.specs.Ordering.{int_cmp}
use Rattle.filter_values.specs.Value.{kind_of}
use Rattle.filter_values.specs.declared.value.Kind.TheVariants as kinds
use Rattle.filter_values.specs.declared.value.Value.{Value}
use Rattle.filter_values.specs.declared.value.Value.TheVariants as values
use Rattle.filter_constraints.specs.declared.op.Op.{Op}
use Rattle.filter_constraints.specs.declared.op.Op.TheVariants as ops
use Rattle.filter_constraints.specs.Constraint.{IsTest, IsNumberOp}
use Rattle.match_index.specs.Pairs.{passes}
use Rattle.match_index.specs.Lines.{on_side}
use Rattle.match_index.specs.Sides.{asked, sides_of}
use Rattle.match_numbers.specs.Keys.{key_of, truth_key, time_key, test_at}
use Rattle.match_numbers.specs.Kinds.{sides_for}
use Rattle.match_numbers.specs.Operands.{IsNumeric}
use Rattle.match_numbers.proofs.Codes.{encode}
use Rattle.match_numbers.proofs.Meets.{side-meets, number-meets, time-meets}

pub all-sides : (o : Ordering) → on_side (asked true true true) o ≡ true
all-sides Less = refl
all-sides Equal = refl
all-sides Greater = refl

pub usual : (op : Op) → (op ≡ ops.Any → ⊥) → sides_for op ≡ sides_of op
usual ops.Any h = absurd (h refl)
usual ops.Eq h = refl
usual ops.Ne h = refl
usual ops.Lt h = refl
usual ops.Le h = refl
usual ops.Gt h = refl
usual ops.Ge h = refl
usual ops.Contains h = refl
usual ops.Prefix h = refl
usual ops.Suffix h = refl

not-any : (op : Op) → IsNumberOp op → op ≡ ops.Any → ⊥
not-any op n e = subst IsNumberOp e n

pub no-operand : (op : Op) (o : Ordering) → op ≡ ops.Any → on_side (sides_for op) o ≡ true
no-operand op o e = ap (λ (p : Op). on_side (sides_for p) o) e ∙ all-sides o

int-met : (op : Op) → (op ≡ ops.Any → ⊥) → (x k : ℤ) → on_side (sides_for op) (int_cmp k x) ≡ passes (values.Int x) (test_at kinds.Int op k)
int-met op h x k = ap (λ s. on_side s (int_cmp k x)) (usual op h) ∙ (side-meets op h x k ∙ number-meets op x k)

time-met : (op : Op) → (op ≡ ops.Any → ⊥) → (x : ℕ) (k : ℤ) → on_side (sides_for op) (int_cmp k (time_key x)) ≡ passes (values.Time x) (test_at kinds.Time op k)
time-met op h x k = ap (λ s. on_side s (int_cmp k (time_key x))) (usual op h) ∙ (side-meets op h (time_key x) k ∙ time-meets op x k)

truth-met : (op : Op) (u x : Bool) → IsTest kinds.Bool op (Some (values.Bool u)) → on_side (sides_for op) (int_cmp (truth_key u) (truth_key x)) ≡ passes (values.Bool x) (record { kind = kinds.Bool; op = op; operand = Some (values.Bool u) })
truth-met ops.Eq true true t = refl
truth-met ops.Eq true false t = refl
truth-met ops.Eq false true t = refl
truth-met ops.Eq false false t = refl
truth-met ops.Ne true true t = refl
truth-met ops.Ne true false t = refl
truth-met ops.Ne false true t = refl
truth-met ops.Ne false false t = refl
truth-met ops.Any u x t = absurd t
truth-met ops.Lt u x t = absurd t
truth-met ops.Le u x t = absurd t
truth-met ops.Gt u x t = absurd t
truth-met ops.Ge u x t = absurd t
truth-met ops.Contains u x t = absurd t
truth-met ops.Prefix u x t = absurd t
truth-met ops.Suffix u x t = absurd t

-- the operand of a constraint is on a side that its operator asks for exactly where the value passes its test
pub side-passes : (v : Value) (op : Op) (operand : Option Value) → IsNumeric (kind_of v) → IsTest (kind_of v) op operand → on_side (sides_for op) (int_cmp (key_of operand) (key_of (Some v))) ≡ passes v (record { kind = kind_of v; op = op; operand = operand })
side-passes (values.Int x) op None n t = no-operand op _ t
side-passes (values.Time x) op None n t = no-operand op _ t
side-passes (values.Bool x) op None n t = no-operand op _ t
side-passes (values.Int x) op (Some (values.Int u)) n t = int-met op (not-any op t.0) x u ∙ ap (passes (values.Int x)) (encode kinds.Int op (Some (values.Int u)) (inl refl) t)
side-passes (values.Time x) op (Some (values.Time u)) n t = time-met op (not-any op t.0) x (time_key u) ∙ ap (passes (values.Time x)) (encode kinds.Time op (Some (values.Time u)) (inr (inr refl)) t)
side-passes (values.Bool x) op (Some (values.Bool u)) n t = truth-met op u x t
side-passes (values.Int x) op (Some (values.Bool u)) n t = absurd t
side-passes (values.Int x) op (Some (values.Str u)) n t = absurd t
side-passes (values.Int x) op (Some (values.Time u)) n t = absurd t
side-passes (values.Time x) op (Some (values.Bool u)) n t = absurd t
side-passes (values.Time x) op (Some (values.Int u)) n t = absurd t
side-passes (values.Time x) op (Some (values.Str u)) n t = absurd t
side-passes (values.Bool x) op (Some (values.Int u)) n t = absurd t
side-passes (values.Bool x) op (Some (values.Str u)) n t = absurd t
side-passes (values.Bool x) op (Some (values.Time u)) n t = absurd t
side-passes (values.Str x) op operand n t = absurd (no-text n)
  where
    no-text : IsNumeric kinds.Str → ⊥
    no-text (inl e) = cc
    no-text (inr (inl e)) = cc
    no-text (inr (inr e)) = cc
