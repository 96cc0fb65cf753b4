-- Defines how a command line is cut into tokens.
use Rattle.std.specs.Prelude.{◌==◌, ◌&&◌, ◌||◌, ◌++◌, ℕ, zero, suc, nat_lt, Bool, true, false, List, [], ◌∷◌, length, Some, None, if◌then◌else◌}
use Rattle.std.specs.declared.option.Option.{Option}
use Rattle.std.specs.List.{list_all}
use Rattle.std.specs.Str.{is_utf8}
use Rattle.filter_values.specs.Name.{is_letter, is_other_name_byte}
use Rattle.filter_values.specs.Text.{is_open_byte}
use Rattle.filter_constraints.specs.declared.op.Op.{Op}
use Rattle.filter_constraints.specs.declared.op.Op.TheVariants as ops
use Rattle.filter_text.specs.Reading.{◌>>=◌}
use Rattle.filter_text.specs.Values.{plain}

-- a word; a sign; a string of at most 1,024 bytes, decoded; a longer one; a semicolon; what is none of these
pub data Token : Type 0 where
  word : List ℕ → Token
  sign : Op → Token
  string : List ℕ → Token
  long : Token
  semicolon : Token
  bad : Token

-- a letter, a digit, or one of `_`, `.`, `-` and `+` (43)
abbrev pub is_word_byte : ℕ → Bool
is_word_byte b = is_letter b || (is_other_name_byte b || b == 43)

-- the longest run of such bytes, behind those that were read, and what follows
abbrev pub run_at : List ℕ → List ℕ → List ℕ × List ℕ
run_at read [] = (read, [])
run_at read (b ∷ rest) = if is_word_byte b then run_at (read ++ b ∷ []) rest else (read, b ∷ rest)

-- a string's bytes up to the closing mark (34), decoded, behind those that were read, and what follows: `\` (92) begins an
-- escape of the wire text, and any other byte but a newline (10) represents itself
abbrev pub quoted_at : List ℕ → Bool → List ℕ → Option (List ℕ × List ℕ)
quoted_at read slashed [] = None
quoted_at read true (b ∷ rest) = plain b >>= λ c. quoted_at (read ++ c ∷ []) false rest
quoted_at read false (b ∷ rest) =
    if b == 34 then Some (read, rest)
    else if b == 92 then quoted_at read true rest
    else if b == 10 then None
    else quoted_at (read ++ b ∷ []) false rest

-- a string is UTF-8 without refused control bytes
abbrev pub is_string : List ℕ → Bool
is_string t = is_utf8 t && list_all is_open_byte t

-- the token of a string, read up to its closing mark
abbrev pub string_seen : List ℕ → Token
string_seen t = if is_string t then (if nat_lt 1024 (length t) then long else string t) else bad

-- the token of a string that was read, if it was closed, and what follows it
abbrev pub string_token : Option (List ℕ × List ℕ) → List ℕ → Token × List ℕ
string_token None rest = (bad, rest)
string_token (Some x) rest = (string_seen x.0, x.1)

-- whether `=` (61) stands in front, and what follows then
abbrev pub equals_at : List ℕ → Bool × List ℕ
equals_at [] = (false, [])
equals_at (b ∷ rest) = if b == 61 then (true, rest) else (false, b ∷ rest)

-- one token before `=`, another else
abbrev pub sign_token : Bool × List ℕ → Token → Token → Token × List ℕ
sign_token x with_equals alone = if x.0 then (with_equals, x.1) else (alone, x.1)

-- the token that begins with the byte, and what follows it
unfoldable pub token_at : ℕ → List ℕ → Token × List ℕ
token_at b rest =
    if is_word_byte b then (word (run_at [] (b ∷ rest)).0, (run_at [] (b ∷ rest)).1)
    else if b == 34 then string_token (quoted_at [] false rest) rest
    else if b == 59 then (semicolon, rest)
    else if b == 61 then (sign ops.Eq, rest)
    else if b == 60 then sign_token (equals_at rest) (sign ops.Le) (sign ops.Lt)
    else if b == 62 then sign_token (equals_at rest) (sign ops.Ge) (sign ops.Gt)
    else if b == 33 then sign_token (equals_at rest) (sign ops.Ne) bad
    else (bad, rest)

-- without the spaces (32) and tabs (9) in front
abbrev pub skip : List ℕ → List ℕ
skip [] = []
skip (b ∷ rest) = if b == 32 || b == 9 then skip rest else b ∷ rest

-- a token in front, and the others as they are told
abbrev pub cut_by : (List ℕ → List Token) → List ℕ → List Token
cut_by others [] = []
cut_by others (b ∷ rest) = (token_at b rest).0 ∷ others (token_at b rest).1

-- at most so many tokens
unfoldable pub tokens_in : ℕ → List ℕ → List Token
tokens_in zero bytes = []
tokens_in (suc n) bytes = cut_by (λ rest. tokens_in n rest) (skip bytes)

-- the tokens of a line: each has a byte at least
abbrev pub tokens : List ℕ → List Token
tokens bytes = tokens_in (length bytes) bytes

-- the token in front, if there is one
abbrev pub first_token : List Token → Option Token
first_token [] = None
first_token (t ∷ ts) = Some t

-- the word in front, if a word stands there
abbrev pub first_word : List Token → Option (List ℕ)
first_word (word w ∷ ts) = Some w
first_word ts = None
