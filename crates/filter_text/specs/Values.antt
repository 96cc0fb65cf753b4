-- Defines which value or attribute is read at the front of bytes.
use Rattle.std.specs.Prelude.{◌==◌, ◌||◌, ◌++◌, ℕ, Bool, true, false, List, [], ◌∷◌, Some, None, codes, if◌then◌else◌}
use Rattle.std.specs.declared.option.Option.{Option}
use Rattle.std.specs.Str.{bytes_eq}
use Rattle.filter_values.specs.Text.{is_text}
use Rattle.filter_values.specs.declared.value.Kind.{Kind}
use Rattle.filter_values.specs.declared.value.Kind.TheVariants as kinds
use Rattle.filter_values.specs.declared.value.Value.{Value}
use Rattle.filter_values.specs.declared.value.Value.TheVariants as values
use Rattle.filter_types.specs.Notice.{Attribute}
use Rattle.filter_text.specs.Reading.{◌>>=◌}
use Rattle.filter_text.specs.Words.{word_at, space_at, head_at, int_of, time_of}

-- what a byte behind a backslash represents
abbrev pub plain : ℕ → Option ℕ
plain b =
    if b == 34 then Some 34
    else if b == 92 then Some 92
    else if b == 110 then Some 10
    else if b == 116 then Some 9
    else None

-- the bytes up to the closing mark behind those that were read, and what follows it
abbrev pub body_at : List ℕ → Bool → List ℕ → Option (List ℕ × List ℕ)
body_at read slashed [] = None
body_at read true (b ∷ rest) = plain b >>= λ c. body_at (read ++ c ∷ []) false rest
body_at read false (b ∷ rest) =
    if b == 34 then Some (read, rest)
    else if b == 92 then body_at read true rest
    else if b == 10 || b == 9 then None
    else body_at (read ++ b ∷ []) false rest

-- bytes that are a text
abbrev pub checked : List ℕ × List ℕ → Option (List ℕ × List ℕ)
checked x = if is_text x.0 then Some x else None

-- a str value in front, and what follows it
unfoldable pub text_at : List ℕ → Option (List ℕ × List ℕ)
text_at [] = None
text_at (b ∷ rest) = if b == 34 then body_at [] false rest >>= checked else None

-- the truth value of a word
abbrev pub truth_named : List ℕ → Option Bool
truth_named w =
    if bytes_eq w (codes "true") then Some true
    else if bytes_eq w (codes "false") then Some false
    else None

-- a value of the kind in front, and what follows it
unfoldable pub value_at : Kind → List ℕ → Option (Value × List ℕ)
value_at kinds.Bool bytes = truth_named (word_at [] bytes).0 >>= λ b. Some (values.Bool b, (word_at [] bytes).1)
value_at kinds.Int bytes = int_of (word_at [] bytes).0 >>= λ z. Some (values.Int z, (word_at [] bytes).1)
value_at kinds.Str bytes = text_at bytes >>= λ t. Some (values.Str t.0, t.1)
value_at kinds.Time bytes = time_of (word_at [] bytes).0 >>= λ n. Some (values.Time n, (word_at [] bytes).1)

-- an attribute in front, and what follows it
unfoldable pub attribute_at : List ℕ → Option (Attribute × List ℕ)
attribute_at bytes = head_at bytes >>= λ h. space_at h.1 >>= λ r. value_at h.0.1 r.1 >>= λ v. Some ((h.0.0, v.0), v.1)
