-- Defines what a value of type Normal represents.
use Rattle.std.specs.Prelude.{◌≢◌, ℕ, pos, List}
use Rattle.filter_values.specs.declared.value.Kind.{Kind}
use Rattle.filter_values.specs.declared.value.Kind.TheVariants as kinds
use Rattle.filter_constraints.specs.declared.op.Op.{Op}
use Rattle.filter_constraints.specs.declared.op.Op.TheVariants as ops
use Rattle.filter_constraints.specs.declared.normal.IntSet.{IntSet}
use Rattle.filter_constraints.specs.declared.normal.IntSet.TheVariants as sets
use Rattle.filter_constraints.specs.declared.normal.TimeSet.{TimeSet}
use Rattle.filter_constraints.specs.declared.normal.TimeSet.TheVariants as times
use Rattle.filter_constraints.specs.declared.normal.Normal.{Normal}
use Rattle.filter_constraints.specs.declared.normal.Normal.TheVariants as normals
use Rattle.filter_constraints.specs.declared.numbers.NumberForm.{NumberForm}
use Rattle.filter_constraints.specs.declared.numbers.NumberForm.TheVariants as forms
use Rattle.filter_constraints.specs.Truths.{Truths}
use Rattle.filter_constraints.specs.Numbers.{Numbers}
use Rattle.filter_constraints.specs.Texts.{Texts}
use Rattle.filter_constraints.specs.Constraint.{Form}
use Rattle.filter_constraints.specs.Constraint.Form.{truth, number, text, time, no_form}

-- the normal form of numbers that a value of type NumberForm represents
abbrev pub numbers_meant : NumberForm → Numbers
numbers_meant forms.Empty = Numbers.empty
numbers_meant forms.All = Numbers.all
numbers_meant (forms.Eq u) = Numbers.equal u
numbers_meant (forms.Ne u) = Numbers.unequal u
numbers_meant (forms.Le u) = Numbers.at_most u
numbers_meant (forms.Ge u) = Numbers.at_least u

-- the normal form of numbers that a set of integers represents
abbrev pub numbers_of : IntSet → Numbers
numbers_of (sets.Eq u) = Numbers.equal u
numbers_of (sets.Ne u) = Numbers.unequal u
numbers_of (sets.Le u) = Numbers.at_most u
numbers_of (sets.Ge u) = Numbers.at_least u

-- the normal form of numbers that a set of times represents
abbrev pub times_of : TimeSet → Numbers
times_of (times.Eq u) = Numbers.equal (pos u)
times_of (times.Ne u) = Numbers.unequal (pos u)
times_of (times.Le u) = Numbers.at_most (pos u)
times_of (times.Ge u) = Numbers.at_least (pos u)

-- the normal form of texts that an operator and its operand represent
abbrev pub texts_of : Op → List ℕ → Texts
texts_of ops.Any u = Texts.all
texts_of ops.Eq u = Texts.equal u
texts_of ops.Ne u = Texts.unequal u
texts_of ops.Lt u = Texts.less_than u
texts_of ops.Le u = Texts.at_most u
texts_of ops.Gt u = Texts.greater_than u
texts_of ops.Ge u = Texts.at_least u
texts_of ops.Prefix u = Texts.prefix u
texts_of ops.Suffix u = Texts.suffix u
texts_of ops.Contains u = Texts.contains u

-- the normal form that a value of type Normal represents for a kind
abbrev pub form_meant : Kind → Normal → Form
form_meant kinds.Bool normals.All = truth Truths.all
form_meant kinds.Bool (normals.Bool b) = truth (Truths.equal b)
form_meant kinds.Int normals.Empty = number Numbers.empty
form_meant kinds.Int normals.All = number Numbers.all
form_meant kinds.Int (normals.Int s) = number (numbers_of s)
form_meant kinds.Str normals.Empty = text Texts.empty
form_meant kinds.Str normals.All = text Texts.all
form_meant kinds.Str (normals.Str op t) = text (texts_of op t.now)
form_meant kinds.Time normals.Empty = time Numbers.empty
form_meant kinds.Time normals.All = time Numbers.all
form_meant kinds.Time (normals.Time s) = time (times_of s)
form_meant kind n = no_form

-- a value of type Normal that a constraint of the kind has
abbrev pub IsOfKind : Kind → Normal → Type 0
IsOfKind kinds.Bool normals.All = Unit {0}
IsOfKind kinds.Bool (normals.Bool b) = Unit {0}
IsOfKind kinds.Int normals.Empty = Unit {0}
IsOfKind kinds.Int normals.All = Unit {0}
IsOfKind kinds.Int (normals.Int s) = Unit {0}
IsOfKind kinds.Str normals.Empty = Unit {0}
IsOfKind kinds.Str normals.All = Unit {0}
IsOfKind kinds.Str (normals.Str op t) = op ≢ ops.Any
IsOfKind kinds.Time normals.Empty = Unit {0}
IsOfKind kinds.Time normals.All = Unit {0}
IsOfKind kinds.Time (normals.Time s) = Unit {0}
IsOfKind kind n = ⊥
