-- Defines words of filters, by the bytes of the texts that they ask for.
use Rattle.std.specs.Prelude.{ℕ, List, [], ◌∷◌, ◌++◌, cond}
use Rattle.std.specs.List.{list_any}
use Rattle.filter_constraints.specs.Texts.{Texts}
use Rattle.filter_constraints.specs.Constraint.{ConstraintParts, Form, form_of}
use Rattle.filter_constraints.specs.Constraint.Form.{text}
use Rattle.base.specs.Signature.{marks}
use Rattle.filter_covering.specs.Signatures.{is_void}

-- what stands in each text that a normal form lets pass: the operand of `=`, `prefix`, `suffix` and `contains`
abbrev pub text_asked : Texts → List ℕ
text_asked (Texts.equal u) = u
text_asked (Texts.prefix u) = u
text_asked (Texts.suffix u) = u
text_asked (Texts.contains u) = u
text_asked k = []

abbrev pub asked : Form → List ℕ
asked (text k) = text_asked k
asked form = []

-- each byte of a text beside a name
abbrev pub byte_signs : List ℕ → List ℕ → List (List ℕ)
byte_signs name [] = []
byte_signs name (b ∷ u) = (name ++ b ∷ []) ∷ byte_signs name u

-- the signs of a constraint, and those of a filter's constraints
abbrev pub text_signs : ConstraintParts → List (List ℕ)
text_signs c = byte_signs c.name (asked (form_of c.kind c.op c.operand))

abbrev pub all_text_signs : List ConstraintParts → List (List ℕ)
all_text_signs [] = []
all_text_signs (c ∷ cs) = text_signs c ++ all_text_signs cs

-- the word of a filter: the bits of its signs; 0, which tells nothing, where it asks for no text or some constraint lets no value pass
abbrev pub text_word : List ConstraintParts → ℕ
text_word f = cond (list_any is_void f) 0 (marks (λ s. s) (all_text_signs f))
