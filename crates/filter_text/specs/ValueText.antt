-- Defines the texts of values, kinds and operators.
use Rattle.std.specs.Prelude.{◌==◌, ◌++◌, ℕ, Bool, true, false, List, [], ◌∷◌, codes, if◌then◌else◌}
use Rattle.std.specs.List.{flat_map}
use Rattle.std.specs.Fmt.{decimal, signed_decimal}
use Rattle.filter_values.specs.declared.value.Kind.{Kind}
use Rattle.filter_values.specs.declared.value.Kind.TheVariants as kinds
use Rattle.filter_values.specs.declared.value.Value.{Value}
use Rattle.filter_values.specs.declared.value.Value.TheVariants as values
use Rattle.filter_constraints.specs.declared.op.Op.{Op}
use Rattle.filter_constraints.specs.declared.op.Op.TheVariants as ops

-- how a byte of a str value is written: `"`, `\`, newline (10) and tab (9) behind a backslash (92), any other as itself
abbrev pub escape : ℕ → List ℕ
escape b =
    if b == 34 then codes "\\\""
    else if b == 92 then codes "\\\\"
    else if b == 10 then codes "\\n"
    else if b == 9 then codes "\\t"
    else b ∷ []

-- a str value between quotation marks (34)
abbrev pub string_text : List ℕ → List ℕ
string_text t = 34 ∷ flat_map escape t ++ 34 ∷ []

-- the word of a truth value
abbrev pub truth_word : Bool → List ℕ
truth_word true = codes "true"
truth_word false = codes "false"

-- an int value is written in decimal: `0`, or a digit 1 to 9 and further digits, perhaps behind a `-`; so is a time, of
-- which the whole seconds are written, without a sign
abbrev pub value_text : Value → List ℕ
value_text (values.Bool b) = truth_word b
value_text (values.Int n) = signed_decimal n
value_text (values.Str t) = string_text t
value_text (values.Time n) = decimal n

-- the word of a kind
abbrev pub kind_word : Kind → List ℕ
kind_word kinds.Bool = codes "bool"
kind_word kinds.Int = codes "int"
kind_word kinds.Str = codes "str"
kind_word kinds.Time = codes "time"

-- the word of an operator
abbrev pub op_word : Op → List ℕ
op_word ops.Any = codes "any"
op_word ops.Eq = codes "="
op_word ops.Ne = codes "!="
op_word ops.Lt = codes "<"
op_word ops.Le = codes "<="
op_word ops.Gt = codes ">"
op_word ops.Ge = codes ">="
op_word ops.Prefix = codes "prefix"
op_word ops.Suffix = codes "suffix"
op_word ops.Contains = codes "contains"
