-- Defines the texts of constraints, filters and advertisements.
use Rattle.std.specs.Prelude.{◌≡◌, ◌++◌, ℕ, List, [], ◌∷◌, Some, None}
use Rattle.std.specs.declared.option.Option.{Option}
use Rattle.filter_values.specs.Name.{IsName}
use Rattle.filter_values.specs.declared.value.Value.{Value}
use Rattle.filter_constraints.specs.declared.op.Op.{Op}
use Rattle.filter_constraints.specs.Constraint.{ConstraintParts}
use Rattle.filter_types.specs.Canonical.{IsListed}
use Rattle.filter_text.specs.ValueText.{kind_word, op_word, value_text}
use Rattle.filter_text.specs.NoticeText.{joined}

-- an operator, and behind a space (32) its operand if it has one
abbrev pub test_text : Op → Option Value → List ℕ
test_text op None = op_word op
test_text op (Some u) = op_word op ++ 32 ∷ value_text u

-- name, kind, operator and operand, with single spaces
unfoldable pub constraint_text : ConstraintParts → List ℕ
constraint_text c = c.name ++ 32 ∷ (kind_word c.kind ++ 32 ∷ test_text c.op c.operand)

-- constraints, joined
unfoldable pub constraints_text : List ConstraintParts → List ℕ
constraints_text f = joined constraint_text f

-- each constraint is on a name
abbrev pub AreNamed : List ConstraintParts → Type 0
AreNamed [] = Unit {0}
AreNamed (c ∷ rest) = IsName c.name × AreNamed rest

-- what each filter (of at most 16 constraints) and each advertisement (of at most 64) is: well-formed constraints,
-- strictly rising in the canonical order
pub record IsWhole (most : ℕ) (f : List ConstraintParts) : Type 0 where
  pub listed : IsListed most f
  pub named : AreNamed f

-- the bytes are the text of a list of 1 to this many constraints
pub record IsListText (most : ℕ) (bytes : List ℕ) (f : List ConstraintParts) : Type 0 where
  pub whole : IsWhole most f
  pub text : bytes ≡ constraints_text f

-- the bytes are the text of a filter
abbrev pub IsFilterText : List ℕ → List ConstraintParts → Type 0
IsFilterText bytes f = IsListText 16 bytes f

-- the bytes are the text of an advertisement
abbrev pub IsAdvertText : List ℕ → List ConstraintParts → Type 0
IsAdvertText bytes a = IsListText 64 bytes a
