-- What it means that covering is sound and complete, and compatibility exact.
use Rattle.std.specs.Prelude.{◌≡◌, true}
use Rattle.filter_values.specs.declared.value.Value.{Value}
use Rattle.filter_values.specs.Value.{IsValue}
use Rattle.filter_constraints.specs.Texts.{Texts, IsUnordered, IsShortPattern}
use Rattle.filter_constraints.specs.Texts.Texts.{empty, all, equal, unequal}
use Rattle.filter_constraints.specs.Constraint.{ConstraintParts, Form, IsConstraint, form_of, satisfies}
use Rattle.filter_constraints.specs.Constraint.Form.{text}

-- forms of texts for which covering is complete: the covering one, then the covered one
abbrev pub AreCompleteTexts : Texts → Texts → Type 0
AreCompleteTexts all m = Unit {0}
AreCompleteTexts k empty = Unit {0}
AreCompleteTexts k (equal v) = Unit {0}
AreCompleteTexts (unequal u) m = Unit {0}
AreCompleteTexts k m = IsUnordered k × IsUnordered m × IsShortPattern m

-- normal forms of one kind for which covering is complete: those of texts that are named, and all of the other kinds
abbrev pub AreCompleteForms : Form → Form → Type 0
AreCompleteForms (text k) (text m) = AreCompleteTexts k m
AreCompleteForms k m = Unit {0}

-- constraints on one name and kind for whose normal forms covering is complete
pub record IsCompletePair (c d : ConstraintParts) : Type 0 where
  pub first : IsConstraint c
  pub second : IsConstraint d
  pub name : c.name ≡ d.name
  pub kind : c.kind ≡ d.kind
  pub forms : AreCompleteForms (form_of c.kind c.op c.operand) (form_of d.kind d.op d.operand)

-- each value that satisfies d satisfies c
abbrev pub IsImplied : ConstraintParts → ConstraintParts → Type 0
IsImplied c d = (x : Value) → IsValue x → satisfies d x ≡ true → satisfies c x ≡ true

-- one value satisfies both
abbrev pub SharesValue : ConstraintParts → ConstraintParts → Type 0
SharesValue c d = (x : Value) × IsValue x × (satisfies c x ≡ true) × (satisfies d x ≡ true)
