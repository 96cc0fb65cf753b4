-- Which rule a line is read by, at which place of a document; what a document's end does; and the document.
use Rattle.std.specs.Prelude.{Bool, true, false, not, ℕ, ◌+◌, List, [], ◌∷◌, ◌&&◌, nat_eq}
use Rattle.std.specs.Prelude.{nat_lt, length, if◌then◌else◌, Option, Some, None, Result, Ok, Err, codes}
use Rattle.std.specs.Option.{is_some}
use Rattle.std.specs.Str.{bytes_eq}
use Rattle.filter_text.specs.declared.semantics.Semantics.TheVariants.{Subscription}
use Rattle.document_script.specs.Tokens.{first_word, tokens}
use Rattle.document_script.specs.Form.{verb_named}
use Rattle.document_reader.specs.Lines.{lines, words}
use Rattle.document_reader.specs.Answer.{◌>>=◌, need}
use Rattle.document_reader.specs.Drawn.{is_apart, undrawn}
use Rattle.document_reader.specs.Tally.{no_counts}
use Rattle.document_reader.specs.Rules.{Answer, barrier_rule, client_rule, command_rule, command_turn, edge_rule, header_rule, phase_rule}
use Rattle.document_reader.specs.Rules.{schedule_rule, script_rule, semantics_rule, servers_rule, take_turn, version_number, version_turn}
use Rattle.document_reader.specs.declared.fault.Fault.{Fault}
use Rattle.document_reader.specs.declared.fault.Fault.TheVariants as is
use Rattle.document_reader.specs.declared.version.Version.TheVariants.{One}
use Rattle.document_reader.specs.declared.state.State.{State}
use Rattle.document_reader.specs.declared.state.Place.{Place}
use Rattle.document_reader.specs.declared.state.Place.TheVariants as at

-- the section that this word begins: a script or the schedule; or something else
abbrev pub next_section : State → List ℕ → List ℕ → List (List ℕ) → Answer → Answer
next_section s token w ws other =
    if bytes_eq token (codes "script") then script_rule s w ws
    else if bytes_eq token (codes "schedule") then schedule_rule s w ws
    else other

-- after a client: a client or the next section
unfoldable pub at_clients : State → List ℕ → List (List ℕ) → Answer
at_clients s w ws =
    if bytes_eq w (codes "client") then client_rule s ws
    else next_section s w w ws (Err is.Order)

-- after an edge, or where one may stand: an edge; if the edges join all servers, in version 2 the next tree, or what stands after a client
unfoldable pub at_edges : State → List ℕ → List (List ℕ) → Answer
at_edges s w ws =
    if bytes_eq w (codes "edge") then edge_rule s ws
    else if is_apart s.trees then Err is.Apart
    else if bytes_eq w (codes "phase") && nat_eq (version_number s.version) 2 then phase_rule s ws
    else at_clients s w ws

-- in a script, by the first token of the line, if that is a word: a barrier, the next section or a command
unfoldable pub at_token : State → List ℕ → List ℕ → List (List ℕ) → Option (List ℕ) → Answer
at_token s line w ws None = Err is.Order
at_token s line w ws (Some token) =
    if bytes_eq token (codes "barrier") then barrier_rule s w ws
    else next_section s token w ws (if is_some (verb_named token) then command_rule s line else Err is.Order)

-- in the schedule
unfoldable pub at_schedule : State → ℕ → List ℕ → List (List ℕ) → Answer
at_schedule s n w ws =
    if bytes_eq w (codes "command") then command_turn s n ws
    else if bytes_eq w (codes "take") then take_turn s n ws
    else if bytes_eq w (codes "version") then version_turn s n ws
    else Err is.Order

-- line n, with its first word and its other words
abbrev pub at_place : Place → State → ℕ → List ℕ → List ℕ → List (List ℕ) → Answer
at_place at.Header s n line w ws = header_rule s w ws
at_place at.Semantics s n line w ws = semantics_rule s w ws
at_place at.Servers s n line w ws = servers_rule s w ws
at_place at.Edges s n line w ws = at_edges s w ws
at_place at.Clients s n line w ws = at_clients s w ws
at_place at.Scripts s n line w ws = at_token s line w ws (first_word (tokens line))
at_place at.Schedule s n line w ws = at_schedule s n w ws

-- the word begins with `#` (35)
abbrev pub is_comment : List ℕ → Bool
is_comment [] = false
is_comment (b ∷ bs) = nat_eq b 35

-- a line without words and a comment are skipped
abbrev pub words_rule : State → ℕ → List ℕ → List (List ℕ) → Answer
words_rule s n line [] = Ok s
words_rule s n line (w ∷ ws) = if is_comment w then Ok s else at_place s.place s n line w ws

-- in a script
abbrev pub is_script : Place → Bool
is_script at.Scripts = true
is_script place = false

-- the words are those of a line that is skipped
abbrev pub is_skipped : List (List ℕ) → Bool
is_skipped [] = true
is_skipped (w ∷ ws) = is_comment w

-- in a script, a line with these words, by its first token
abbrev pub at_section : State → List ℕ → Option (List ℕ) → List (List ℕ) → Answer
at_section s line token [] = Ok s
at_section s line token (w ∷ ws) = at_token s line w ws token

-- line n
unfoldable pub line_rule : State → ℕ → List ℕ → Answer
line_rule s n line = words_rule s n line (words line)

-- there are servers
abbrev pub has_servers : Place → Bool
has_servers at.Header = false
has_servers at.Semantics = false
has_servers at.Servers = false
has_servers place = true

-- the end
unfoldable pub end_rule : State → Answer
end_rule s = do
  servers ← need (has_servers s.place) is.Ended
  whole ← need (not (is_apart s.trees)) is.Apart
  Ok s

-- what stands before the first line
abbrev pub start : State
start = record { place = at.Header; version = One; semantics = Subscription; trees = undrawn 0; clients = []; client = 0; tally = no_counts; schedule = [] }

-- a fault is told with the number of its line
abbrev pub told_at : {A : Type 0} → ℕ → Result A Fault → Result A (ℕ × Fault)
told_at n (Ok x) = Ok x
told_at n (Err fault) = Err (n, fault)

-- what comes next, unless a fault was told
abbrev pub then_on : {A B : Type 0} → Result A (ℕ × Fault) → (A → Result B (ℕ × Fault)) → Result B (ℕ × Fault)
then_on (Ok x) f = f x
then_on (Err e) f = Err e

-- the lines in turn, of which the first has the number n, and the end
abbrev pub read_from : ℕ → State → List (List ℕ) → Result State (ℕ × Fault)
read_from n s [] = told_at n (end_rule s)
read_from n s (l ∷ ls) = then_on (told_at n (line_rule s n l)) (λ t. read_from (n + 1) t ls)

-- WHAT A DOCUMENT SAYS: what stands after its lines and its end, or the first line at fault with its first fault
unfoldable pub document_of : List ℕ → Result State (ℕ × Fault)
document_of bytes = if nat_lt 4194304 (length bytes) then Err (0, is.TooLong) else read_from 1 start (lines bytes)
