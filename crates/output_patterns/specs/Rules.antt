-- What each line behind the line `patterns` does to what stands so far: one rule for each kind of line, whose tests stand in
-- their order.
use Rattle.std.specs.Prelude.{Bool, false, not, ℕ, ◌+◌, List, [], ◌∷◌, ◌&&◌, nat_lt, length, if◌then◌else◌}
use Rattle.std.specs.Prelude.{Option, Some, None, Result, Ok, Err, codes}
use Rattle.std.specs.Option.{is_some, option_and_then}
use Rattle.std.specs.Str.{bytes_eq}
use Rattle.filter_values.specs.Name.{is_name}
use Rattle.document_script.specs.Tokens.{first_word, tokens}
use Rattle.net_model.specs.Parts.{ClientParts}
use Rattle.document_reader.specs.Lines.{words}
use Rattle.document_reader.specs.Words.{two}
use Rattle.document_reader.specs.Places.{is_comment}
use Rattle.document_reader.specs.Answer.{◌>>=◌, need, want}
use Rattle.output_patterns.specs.Parts.{PatternParts, WatchingParts, pattern_parts, watching, all_of, client_named, has_label, has_room, is_short}
use Rattle.output_patterns.specs.Parts.{with_last_step, with_pattern}
use Rattle.output_patterns.specs.Steps.{step_filter}
use Rattle.output_patterns.specs.declared.fault.PatternKind.{PatternKind}
use Rattle.output_patterns.specs.declared.fault.PatternKind.TheVariants as is

abbrev pub Answer : Type 0
Answer = Result WatchingParts PatternKind

-- two names
unfoldable pub two_names : List (List ℕ) → Option (List ℕ × List ℕ)
two_names ws = option_and_then (λ p. if is_name p.0 && is_name p.1 then Some p else None) (two ws)

-- `pattern CLIENT LABEL`, by the first word and the other words of its line
unfoldable pub pattern_rule : List ClientParts → WatchingParts → List ℕ → List (List ℕ) → Answer
pattern_rule clients s w ws = do
  whole ← need (bytes_eq w (codes "pattern")) is.Words
  names ← want (two_names ws) is.Words
  client ← want (client_named names.0 clients) is.Name
  new ← need (not (has_label client names.1 (all_of s))) is.Name
  room ← need (nat_lt (length (all_of s)) 1024) is.Count
  Ok (with_pattern (pattern_parts client names.1 []) s)

-- `step`, by its whole line
unfoldable pub step_rule : ℕ → WatchingParts → List ℕ → Answer
step_rule version s line = do
  behind ← need (is_some s.last) is.Order
  filter ← step_filter version line
  room ← need (has_room s.last) is.Count
  Ok (with_last_step filter s)

-- the first token of a line is this word
abbrev pub is_token : List ℕ → Option (List ℕ) → Bool
is_token word None = false
is_token word (Some token) = bytes_eq token word

-- a line by its first token: a step goes on with the last pattern, and all else ends its steps
unfoldable pub at_token : ℕ → List ClientParts → WatchingParts → List ℕ → List ℕ → List (List ℕ) → Option (List ℕ) → Answer
at_token version clients s line w ws token =
    if is_token (codes "step") token then step_rule version s line
    else if is_short s.last then Err is.Short
    else if is_token (codes "pattern") token then pattern_rule clients s w ws
    else Err is.Order

-- a line without words and a comment are skipped
abbrev pub words_rule : ℕ → List ClientParts → WatchingParts → List ℕ → List (List ℕ) → Answer
words_rule version clients s line [] = Ok s
words_rule version clients s line (w ∷ ws) = if is_comment w then Ok s else at_token version clients s line w ws (first_word (tokens line))

-- a line
unfoldable pub line_rule : ℕ → List ClientParts → WatchingParts → List ℕ → Answer
line_rule version clients s line = words_rule version clients s line (words line)

-- the end
unfoldable pub end_rule : WatchingParts → Result (List PatternParts) PatternKind
end_rule s = do
  whole ← need (not (is_short s.last)) is.Short
  Ok (all_of s)

-- a fault is told with the number of its line
abbrev pub told_at : {A : Type 0} → ℕ → Result A PatternKind → Result A (ℕ × PatternKind)
told_at n (Ok x) = Ok x
told_at n (Err fault) = Err (n, fault)

-- what comes next, unless a fault was told
abbrev pub then_on : {A B : Type 0} → Result A (ℕ × PatternKind) → (A → Result B (ℕ × PatternKind)) → Result B (ℕ × PatternKind)
then_on (Ok x) f = f x
then_on (Err e) f = Err e

-- the lines in turn, of which the first has the number n, and the end
abbrev pub read_from : ℕ → List ClientParts → ℕ → WatchingParts → List (List ℕ) → Result (List PatternParts) (ℕ × PatternKind)
read_from version clients n s [] = told_at n (end_rule s)
read_from version clients n s (l ∷ ls) = then_on (told_at n (line_rule version clients s l)) (λ t. read_from version clients (n + 1) t ls)

-- no pattern stands before the first line
abbrev pub nothing : WatchingParts
nothing = watching [] None
