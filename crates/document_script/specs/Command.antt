-- What is wrong with a command line, and the command that it spells.
use Rattle.std.specs.Prelude.{◌≡◌, ℕ, nat_lt, Bool, true, false, List, length, Some, None, Ok, Err, IsPermutation, if◌then◌else◌}
use Rattle.std.specs.declared.option.Option.{Option}
use Rattle.std.specs.declared.result.Result.{Result}
use Rattle.std.specs.Option.{is_some}
use Rattle.std.specs.Int.{IsInRange}
use Rattle.std.specs.List.{filter_map, list_any}
use Rattle.filter_constraints.specs.Constraint.{ConstraintParts}
use Rattle.filter_types.specs.Canonical.{canonical}
use Rattle.filter_types.specs.Notice.{Attribute, AreRising, first_twice}
use Rattle.filter_text.specs.declared.command.Command.{Command}
use Rattle.filter_text.specs.declared.command.Command.TheVariants as commands
use Rattle.filter_text.specs.Reading.{◌>>=◌}
use Rattle.document_script.specs.declared.fault.ScriptFault.{ScriptFault}
use Rattle.document_script.specs.declared.fault.ScriptFault.TheVariants as faults
use Rattle.document_script.specs.declared.form.Given.{Given}
use Rattle.document_script.specs.declared.form.Given.TheVariants.{Fit, Wide}
use Rattle.document_script.specs.declared.form.Part.{Part}
use Rattle.document_script.specs.declared.form.Part.TheVariants.{Whole, Beyond, Empty}
use Rattle.document_script.specs.declared.verb.Verb.{Verb}
use Rattle.document_script.specs.declared.verb.Verb.TheVariants as verbs
use Rattle.document_script.specs.Tokens.{tokens}
use Rattle.document_script.specs.Form.{CommandForm, verb_in, form_in}
use Rattle.document_script.specs.Form.CommandForm.{control, publish}

-- documents have the version 1 or 2
abbrev pub IsVersion : ℕ → Type 0
IsVersion version = IsInRange 1 2 version

-- the form of a line in documents of the version; none has more parts than bytes
unfoldable pub form_of : ℕ → List ℕ → Option CommandForm
form_of version line = verb_in (tokens line) >>= λ v. form_in version (length line) v.0 v.1

-- the operand is beyond the limits
abbrev pub is_beyond : Part → Bool
is_beyond Beyond = true
is_beyond part = false

-- a pattern has an empty operand
abbrev pub is_empty : Part → Bool
is_empty Empty = true
is_empty part = false

-- the constraint that the part is, if its operand is within the limits and it is no empty pattern
abbrev pub whole_of : Part → Option ConstraintParts
whole_of (Whole c) = Some c
whole_of part = None

-- the constraints among the parts
abbrev pub wholes : List Part → List ConstraintParts
wholes parts = filter_map whole_of parts

-- the value is beyond the limits
abbrev pub is_wide : List ℕ × Given → Bool
is_wide (name, Wide) = true
is_wide (name, Fit v) = false

-- the attribute, if its value is within the limits
abbrev pub fit_of : List ℕ × Given → Option Attribute
fit_of (name, Fit v) = Some (name, v)
fit_of (name, Wide) = None

-- the attributes whose values are within the limits
abbrev pub fits : List (List ℕ × Given) → List Attribute
fits attributes = filter_map fit_of attributes

-- the most distinct constraints
abbrev pub most : Verb → ℕ
most verbs.Advertise = 64
most verbs.Unadvertise = 64
most v = 16

-- some name stands twice
abbrev pub has_twice : List Attribute → Bool
has_twice n = is_some (first_twice n)

-- the first fault of a control command's parts, in the order of the tests
unfoldable pub control_fault : ℕ → List Part → Option ScriptFault
control_fault limit parts =
    if list_any is_beyond parts then Some faults.Value
    else if list_any is_empty parts then Some faults.Operand
    else if nat_lt limit (length (canonical (wholes parts))) then Some faults.Count
    else None

-- the first fault of a publish command's parts, in the order of the tests
unfoldable pub publish_fault : List (List ℕ × Given) → Option ScriptFault
publish_fault attributes =
    if list_any is_wide attributes then Some faults.Value
    else if nat_lt 64 (length (fits attributes)) then Some faults.Count
    else if has_twice (fits attributes) then Some faults.Repeat
    else None

-- the first fault of a form
abbrev pub fault_in : CommandForm → Option ScriptFault
fault_in (control v parts) = control_fault (most v) parts
fault_in (publish attributes) = publish_fault attributes

-- a line without a form is at fault by that
abbrev pub fault_of_form : Option CommandForm → Option ScriptFault
fault_of_form None = Some faults.Syntax
fault_of_form (Some form) = fault_in form

-- the first fault of a line, over the whole line, in documents of the version
abbrev pub script_fault : ℕ → List ℕ → Option ScriptFault
script_fault version line = fault_of_form (form_of version line)

-- the command that a form without fault gives: equal constraints once, in canonical order; attributes by rising names
abbrev pub Spells : CommandForm → Command → Type 0
Spells (control verbs.Subscribe parts) (commands.Subscribe f) = f ≡ canonical (wholes parts)
Spells (control verbs.Unsubscribe parts) (commands.Unsubscribe f) = f ≡ canonical (wholes parts)
Spells (control verbs.Advertise parts) (commands.Advertise a) = a ≡ canonical (wholes parts)
Spells (control verbs.Unadvertise parts) (commands.Unadvertise a) = a ≡ canonical (wholes parts)
Spells (publish attributes) (commands.Publish n) = IsPermutation (fits attributes) n × AreRising n
Spells form command = ⊥

-- the answer to a form: its first fault, or the command that it spells; out of memory tells nothing
abbrev pub AnswersLine : Result Command ScriptFault → Option CommandForm → Type 0
AnswersLine (Ok c) None = ⊥
AnswersLine (Ok c) (Some form) = (fault_in form ≡ None) × Spells form c
AnswersLine (Err faults.NoMemory) form = Unit {0}
AnswersLine (Err e) form = fault_of_form form ≡ Some e

-- the command that a line spells in documents of the version
abbrev pub IsCommandOf : ℕ → List ℕ → Command → Type 0
IsCommandOf version line command = (form : CommandForm) × (form_of version line ≡ Some form) × (fault_in form ≡ None) × Spells form command
