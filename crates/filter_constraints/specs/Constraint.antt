-- Defines satisfaction, normal form, covering and compatibility of constraints.
use Rattle.std.specs.Prelude.{◌≡◌, ℕ, ◌<◌, ◌-◌, ◌^◌, ℤ, pos, negsuc, Bool, true, false, ◌&&◌, List, length, Some, None}
use Rattle.std.specs.declared.option.Option.{Option}
use Rattle.std.specs.Str.{bytes_eq}
use Rattle.filter_values.specs.Text.{IsText}
use Rattle.filter_values.specs.Value.{IsValue, same_kind}
use Rattle.filter_values.specs.declared.value.Kind.{Kind}
use Rattle.filter_values.specs.declared.value.Kind.TheVariants as kinds
use Rattle.filter_values.specs.declared.value.Value.{Value}
use Rattle.filter_values.specs.declared.value.Value.TheVariants as values
use Rattle.filter_constraints.specs.declared.op.Op.{Op}
use Rattle.filter_constraints.specs.declared.op.Op.TheVariants as ops
use Rattle.filter_constraints.specs.Truths.{Truths, truth_allows, truth_covers, truth_compatible, truth_satisfies, truth_form}
use Rattle.filter_constraints.specs.Numbers.{Numbers, number_allows, number_covers, number_compatible, number_satisfies, number_form}
use Rattle.filter_constraints.specs.Texts.{Texts, text_allows, text_covers, text_compatible, text_satisfies, text_form}

-- a constraint, as contracts see it
pub record ConstraintParts : Type 0 where
  pub name : List ℕ
  pub kind : Kind
  pub op : Op
  pub operand : Option Value

-- bool has the operator
abbrev pub IsTruthOp : Op → Type 0
IsTruthOp ops.Eq = Unit {0}
IsTruthOp ops.Ne = Unit {0}
IsTruthOp op = ⊥

-- int and time have the operator
abbrev pub IsNumberOp : Op → Type 0
IsNumberOp ops.Contains = ⊥
IsNumberOp ops.Prefix = ⊥
IsNumberOp ops.Suffix = ⊥
IsNumberOp ops.Any = ⊥
IsNumberOp op = Unit {0}

-- str has the operator, which has an operand, and the operand of a pattern has at least one byte
abbrev pub IsTextTest : Op → List ℕ → Type 0
IsTextTest ops.Contains u = 0 < length u
IsTextTest ops.Prefix u = 0 < length u
IsTextTest ops.Suffix u = 0 < length u
IsTextTest ops.Any u = ⊥
IsTextTest op u = Unit {0}

-- the kind has the operator, and the operand is of the kind, or there is none and the operator is `any`
abbrev pub IsTest : Kind → Op → Option Value → Type 0
IsTest kind op None = op ≡ ops.Any
IsTest kinds.Bool op (Some (values.Bool u)) = IsTruthOp op
IsTest kinds.Int op (Some (values.Int u)) = IsNumberOp op × IsValue (values.Int u)
IsTest kinds.Str op (Some (values.Str u)) = IsTextTest op u × IsText u
IsTest kinds.Time op (Some (values.Time u)) = IsNumberOp op × IsValue (values.Time u)
IsTest kind op (Some u) = ⊥

-- the value is of the kind and satisfies the operator with the operand
abbrev pub value_satisfies : Kind → Op → Option Value → Value → Bool
value_satisfies kinds.Bool op None (values.Bool x) = true
value_satisfies kinds.Int op None (values.Int x) = true
value_satisfies kinds.Str op None (values.Str x) = true
value_satisfies kinds.Time op None (values.Time x) = true
value_satisfies kinds.Bool op (Some (values.Bool u)) (values.Bool x) = truth_satisfies op x u
value_satisfies kinds.Int op (Some (values.Int u)) (values.Int x) = number_satisfies op x u
value_satisfies kinds.Str op (Some (values.Str u)) (values.Str x) = text_satisfies op x u
value_satisfies kinds.Time op (Some (values.Time u)) (values.Time x) = number_satisfies op (pos x) (pos u)
value_satisfies kind op operand x = false

-- the normal forms of all kinds, number being int's; no_form is for parts that are no constraint
pub data Form : Type 0 where
  truth : Truths → Form
  number : Numbers → Form
  text : Texts → Form
  time : Numbers → Form
  no_form : Form

-- the least i64
abbrev pub int_least : ℤ
int_least = negsuc (2 ^ 63 - 1)

-- the greatest i64
abbrev pub int_greatest : ℤ
int_greatest = pos (2 ^ 63 - 1)

-- the least u64
abbrev pub time_least : ℤ
time_least = pos 0

-- the greatest u64
abbrev pub time_greatest : ℤ
time_greatest = pos (2 ^ 64 - 1)

-- the normal form of a kind, an operator and an operand; int is numbers from the least to the greatest i64, time those of u64
abbrev pub form_of : Kind → Op → Option Value → Form
form_of kinds.Bool op None = truth Truths.all
form_of kinds.Int op None = number Numbers.all
form_of kinds.Str op None = text Texts.all
form_of kinds.Time op None = time Numbers.all
form_of kinds.Bool op (Some (values.Bool u)) = truth (truth_form op u)
form_of kinds.Int op (Some (values.Int u)) = number (number_form int_least int_greatest op u)
form_of kinds.Str op (Some (values.Str u)) = text (text_form op u)
form_of kinds.Time op (Some (values.Time u)) = time (number_form time_least time_greatest op (pos u))
form_of kind op (Some u) = no_form

-- a value meets the normal form
abbrev pub form_allows : Form → Value → Bool
form_allows (truth k) (values.Bool x) = truth_allows k x
form_allows (number k) (values.Int x) = number_allows k x
form_allows (text k) (values.Str x) = text_allows k x
form_allows (time k) (values.Time x) = number_allows k (pos x)
form_allows k x = false

-- the covering tables of all kinds
abbrev pub form_covers : Form → Form → Bool
form_covers (truth k) (truth m) = truth_covers k m
form_covers (number k) (number m) = number_covers k m
form_covers (text k) (text m) = text_covers k m
form_covers (time k) (time m) = number_covers k m
form_covers no_form no_form = true
form_covers k m = false

-- the tables of compatibility of all kinds
abbrev pub form_compatible : Form → Form → Bool
form_compatible (truth k) (truth m) = truth_compatible k m
form_compatible (number k) (number m) = number_compatible k m
form_compatible (text k) (text m) = text_compatible k m
form_compatible (time k) (time m) = number_compatible k m
form_compatible k m = false

-- the parts are a constraint
abbrev pub IsConstraint : ConstraintParts → Type 0
IsConstraint c = IsTest c.kind c.op c.operand

-- two constraints are on one name and kind
abbrev pub same_subject : ConstraintParts → ConstraintParts → Bool
same_subject c d = bytes_eq c.name d.name && same_kind c.kind d.kind

-- a value satisfies the constraint
unfoldable pub satisfies : ConstraintParts → Value → Bool
satisfies c x = value_satisfies c.kind c.op c.operand x

-- c covers d: on one name and kind, and by the covering table of the kind
unfoldable pub constraint_covers : ConstraintParts → ConstraintParts → Bool
constraint_covers c d = same_subject c d && form_covers (form_of c.kind c.op c.operand) (form_of d.kind d.op d.operand)

-- c and d can both hold: on one name and kind, and the table of the kind does not speak against it
unfoldable pub compatible : ConstraintParts → ConstraintParts → Bool
compatible c d = same_subject c d && form_compatible (form_of c.kind c.op c.operand) (form_of d.kind d.op d.operand)
