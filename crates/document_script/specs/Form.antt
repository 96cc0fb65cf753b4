-- Defines the form of a command over the tokens of its line.
use Rattle.std.specs.Prelude.{◌&&◌, ◌++◌, ◌^◌, ℕ, zero, suc, nat_le, nat_lt, Bool, true, false, List, [], ◌∷◌, length, Some, None, codes, if◌then◌else◌}
use Rattle.std.specs.declared.option.Option.{Option}
use Rattle.std.specs.List.{list_all}
use Rattle.std.specs.Str.{bytes_eq}
use Rattle.std.specs.Str.Parse.{without_leading_sign, digits_value, signed_digits_value}
use Rattle.filter_values.specs.Name.{is_name}
use Rattle.filter_values.specs.declared.value.Kind.{Kind}
use Rattle.filter_values.specs.declared.value.Kind.TheVariants as kinds
use Rattle.filter_values.specs.declared.value.Value.TheVariants as values
use Rattle.filter_constraints.specs.declared.op.Op.{Op}
use Rattle.filter_constraints.specs.declared.op.Op.TheVariants as ops
use Rattle.filter_constraints.specs.declared.constraint.BadConstraint.{BadConstraint}
use Rattle.filter_constraints.specs.declared.constraint.BadConstraint.TheVariants.{EmptyPattern}
use Rattle.filter_constraints.specs.Constraint.{ConstraintParts}
use Rattle.filter_constraints.specs.Faults.{fault_of, has_op}
use Rattle.filter_text.specs.Reading.{◌>>=◌}
use Rattle.filter_text.specs.Words.{kind_named, fits_i64}
use Rattle.filter_text.specs.Values.{truth_named}
use Rattle.filter_text.specs.Filters.{op_named}
use Rattle.document_script.specs.declared.form.Given.{Given}
use Rattle.document_script.specs.declared.form.Given.TheVariants.{Fit, Wide}
use Rattle.document_script.specs.declared.form.Part.{Part}
use Rattle.document_script.specs.declared.form.Part.TheVariants.{Whole, Beyond, Empty}
use Rattle.document_script.specs.declared.verb.Verb.{Verb}
use Rattle.document_script.specs.declared.verb.Verb.TheVariants as verbs
use Rattle.document_script.specs.Tokens.{Token}
use Rattle.document_script.specs.Tokens.Token.{word, sign, string, long, semicolon}

-- a decimal digit of ASCII
abbrev pub is_digit : ℕ → Bool
is_digit b = nat_le 48 b && nat_le b 57

-- one digit or more, and nothing else
abbrev pub are_digits : List ℕ → Bool
are_digits ds = nat_lt 0 (length ds) && list_all is_digit ds

-- the number that decimal digits write, where there is nothing else
abbrev pub number_of_digits : List ℕ → Option ℕ
number_of_digits ds = if list_all is_digit ds then Some (digits_value 10 ds) else None

-- a number that fits into 64 bits
abbrev pub in_64_bits : ℕ → Option ℕ
in_64_bits n = if nat_lt n (2 ^ 64) then Some n else None

-- an int: perhaps `+` or `-`, and one or more digits; it is beyond the limits outside i64
unfoldable pub int_given : List ℕ → Option Given
int_given w =
    if are_digits (without_leading_sign w)
    then Some (if fits_i64 (signed_digits_value 10 w) then Fit (values.Int (signed_digits_value 10 w)) else Wide)
    else None

-- a time: one or more digits; it is beyond the limits outside u64
unfoldable pub time_given : List ℕ → Option Given
time_given w =
    if are_digits w
    then Some (if nat_lt (digits_value 10 w) (2 ^ 64) then Fit (values.Time (digits_value 10 w)) else Wide)
    else None

-- a word
abbrev pub word_in : List Token → Option (List ℕ × List Token)
word_in (word w ∷ ts) = Some (w, ts)
word_in ts = None

-- a kind, if documents of the version have it: version 1 has no times
abbrev pub kind_of_version : ℕ → Kind → Option Kind
kind_of_version version kinds.Time = if nat_lt 1 version then Some kinds.Time else None
kind_of_version version kind = Some kind

-- the kind of a word in documents of the version
abbrev pub kind_by : ℕ → List ℕ → Option Kind
kind_by version w = kind_named w >>= kind_of_version version

-- a word that is a kind
abbrev pub kind_in : ℕ → List Token → Option (Kind × List Token)
kind_in version ts = word_in ts >>= λ k. kind_by version k.0 >>= λ kind. Some (kind, k.1)

-- a name and a kind
unfoldable pub head_in : ℕ → List Token → Option ((List ℕ × Kind) × List Token)
head_in version ts = word_in ts >>= λ n. word_in n.1 >>= λ k. kind_by version k.0 >>= λ kind. if is_name n.0 then Some ((n.0, kind), k.1) else None

-- an operator: a sign, or one of the words `any`, `prefix`, `suffix` and `contains` (no word has a sign's byte)
abbrev pub op_in : List Token → Option (Op × List Token)
op_in (word w ∷ ts) = op_named w >>= λ o. Some (o, ts)
op_in (sign o ∷ ts) = Some (o, ts)
op_in ts = None

-- a value of the kind's form
abbrev pub given_in : Kind → List Token → Option (Given × List Token)
given_in kinds.Bool (word w ∷ ts) = truth_named w >>= λ b. Some (Fit (values.Bool b), ts)
given_in kinds.Int (word w ∷ ts) = int_given w >>= λ g. Some (g, ts)
given_in kinds.Time (word w ∷ ts) = time_given w >>= λ g. Some (g, ts)
given_in kinds.Str (string t ∷ ts) = Some (Fit (values.Str t), ts)
given_in kinds.Str (long ∷ ts) = Some (Wide, ts)
given_in kind ts = None

-- `any` has no operand, every other operator has one
abbrev pub operand_in : Kind → Op → List Token → Option (Option Given × List Token)
operand_in kind ops.Any ts = Some (None, ts)
operand_in kind op ts = given_in kind ts >>= λ g. Some (Some g.0, g.1)

-- a constraint without a fault is whole; the one fault that is not of the form is an empty pattern
abbrev pub judged : Option BadConstraint → ConstraintParts → Option Part
judged None c = Some (Whole c)
judged (Some EmptyPattern) c = Some Empty
judged (Some e) c = None

-- a constraint, or an operand beyond the limits, or the empty operand of a pattern; the kind has the operator
abbrev pub part_of : List ℕ → Kind → Op → Option Given → Option Part
part_of name kind op None = judged (fault_of kind op None) (record { name = name; kind = kind; op = op; operand = None })
part_of name kind op (Some (Fit v)) = judged (fault_of kind op (Some v)) (record { name = name; kind = kind; op = op; operand = Some v })
part_of name kind op (Some Wide) = if has_op kind op then Some Beyond else None

-- a part of a control command
unfoldable pub constraint_in : ℕ → List Token → Option (Part × List Token)
constraint_in version ts = head_in version ts >>= λ h. op_in h.1 >>= λ o. operand_in h.0.1 o.0 o.1 >>= λ u. part_of h.0.0 h.0.1 o.0 u.0 >>= λ p. Some (p, u.1)

-- a part of a publish command: a name, a kind and a value
unfoldable pub attribute_in : ℕ → List Token → Option ((List ℕ × Given) × List Token)
attribute_in version ts = head_in version ts >>= λ h. given_in h.0.1 h.1 >>= λ g. Some ((h.0.0, g.0), g.1)

-- behind a part: the end of the line, or a semicolon
abbrev pub more_in : List Token → Option (Bool × List Token)
more_in [] = Some (false, [])
more_in (semicolon ∷ ts) = Some (true, ts)
more_in ts = None

-- one part or more, at most so many, joined by semicolons up to the end of the line, behind those that were read
unfoldable pub parts_in : {A : Type 0} → (List Token → Option (A × List Token)) → ℕ → List A → List Token → Option (List A)
parts_in one zero read ts = None
parts_in one (suc n) read ts = one ts >>= λ x. more_in x.1 >>= λ m. if m.0 then parts_in one n (read ++ x.0 ∷ []) m.1 else Some (read ++ x.0 ∷ [])

-- the first word of a command
abbrev pub verb_named : List ℕ → Option Verb
verb_named w =
    if bytes_eq w (codes "subscribe") then Some verbs.Subscribe
    else if bytes_eq w (codes "unsubscribe") then Some verbs.Unsubscribe
    else if bytes_eq w (codes "advertise") then Some verbs.Advertise
    else if bytes_eq w (codes "unadvertise") then Some verbs.Unadvertise
    else if bytes_eq w (codes "publish") then Some verbs.Publish
    else None

-- that word in front
abbrev pub verb_in : List Token → Option (Verb × List Token)
verb_in ts = word_in ts >>= λ w. verb_named w.0 >>= λ v. Some (v, w.1)

-- a command without limits
pub data CommandForm : Type 0 where
  control : Verb → List Part → CommandForm
  publish : List (List ℕ × Given) → CommandForm

-- the parts of a control command
abbrev pub control_in : ℕ → ℕ → Verb → List Token → Option CommandForm
control_in version n v ts = parts_in (constraint_in version) n [] ts >>= λ p. Some (control v p)

-- the parts of a publish command
abbrev pub publish_in : ℕ → ℕ → List Token → Option CommandForm
publish_in version n ts = parts_in (attribute_in version) n [] ts >>= λ p. Some (publish p)

-- what follows the first word
abbrev pub form_in : ℕ → ℕ → Verb → List Token → Option CommandForm
form_in version n verbs.Publish ts = publish_in version n ts
form_in version n v ts = control_in version n v ts
