-- Defines the form of a trace, line by line, and the turns that it shows.
use Rattle.std.specs.Prelude.{ℕ, ◌+◌, ◌^◌, Bool, true, false, not, ◌&&◌, List, [], ◌∷◌, ◌++◌, length, nat_eq, nat_lt, nat_le, if◌then◌else◌, cond, codes}
use Rattle.std.specs.Prelude.{Option, Some, None, Result, Ok, Err}
use Rattle.std.specs.Option.{option_and_then, option_map}
use Rattle.std.specs.List.{list_any, position}
use Rattle.std.specs.Str.{bytes_eq}
use Rattle.document_script.specs.Form.{are_digits, number_of_digits}
use Rattle.base_tree.specs.Tree.{Topology, links_of}
use Rattle.net_model.specs.declared.turn.Turn.{Turn}
use Rattle.net_model.specs.declared.turn.Turn.TheVariants.{Command, Receive, TableUpdate}
use Rattle.net_model.specs.Parts.{ClientParts, NetParts}
use Rattle.net_model.specs.Nets.{first_tree}
use Rattle.document_reader.specs.Lines.{words}
use Rattle.audit_claim.specs.Output.{at_space}
use Rattle.audit_claim.specs.declared.line.TraceLine.{TraceLine}
use Rattle.audit_claim.specs.declared.line.TraceLine.TheVariants.{Entry, Message}

-- what comes next, where there is something
infixl 10 ◌>>=◌
abbrev pub ◌>>=◌ : {A B : Type 0} → Option A → (A → Option B) → Option B
(Some x) >>= f = f x
None >>= f = None

-- nothing, unless the test holds
abbrev pub need : Bool → Option (Unit {0})
need holds = cond holds (Some tt) None

-- the word does not begin with the digit 0 (48), or is that digit
abbrev pub leads : List ℕ → Bool
leads [] = false
leads (b ∷ []) = true
leads (b ∷ c ∷ cs) = not (nat_eq b 48)

-- a decimal number without a leading zero, of any length
unfoldable pub is_decimal : List ℕ → Bool
is_decimal word = leads word && are_digits word

-- a decimal number without a leading zero, of at most 19 digits
unfoldable pub decimal_number : List ℕ → Option ℕ
decimal_number word = if leads word && nat_le (length word) 19 then number_of_digits word else None

-- a server of the net
abbrev pub is_server : NetParts → ℕ → Bool
is_server net server = nat_le 1 server && nat_le server (first_tree net.trees).count

-- two servers are neighbours in a tree, where the first is there
abbrev pub joins : ℕ → ℕ → ℕ × Topology → Bool
joins a b tree = nat_le a tree.1.count && list_any (λ near. nat_eq near b) (links_of tree.1 a)

-- in some tree of the net
abbrev pub are_joined : NetParts → ℕ → ℕ → Bool
are_joined net a b = list_any (joins a b) net.trees

-- a client with this name that lives at this server
abbrev pub lives_as : ℕ → List ℕ → ClientParts → Bool
lives_as server name client = nat_eq client.home server && bytes_eq client.name name

-- `command NAME`, by its name: a client whose home is the server
unfoldable pub command_turn : NetParts → ℕ → List ℕ → Option Turn
command_turn net server name = option_map (λ place. Command (place + 1)) (position (lives_as server name) net.clients)

-- `take NEIGHBOUR`, by its number: a server that is a neighbour in some tree
unfoldable pub take_turn : NetParts → ℕ → List ℕ → Option Turn
take_turn net server word = do
  from ← decimal_number word
  there ← need (is_server net from)
  near ← need (are_joined net server from)
  Some (Receive server from)

-- `command NAME` or `take NEIGHBOUR`, by its first word and what stands behind it
abbrev pub act_by : NetParts → ℕ → List ℕ × List ℕ → Option Turn
act_by net server act =
    if bytes_eq act.0 (codes "command") then command_turn net server act.1
    else if bytes_eq act.0 (codes "take") then take_turn net server act.1
    else None

-- what a server did: `version`, `command NAME` or `take NEIGHBOUR`
unfoldable pub act_turn : NetParts → ℕ → List ℕ → Option Turn
act_turn net server text = if bytes_eq text (codes "version") then Some (TableUpdate server) else option_and_then (act_by net server) (at_space text)

-- what stands behind `entry`: a stamp below 2^62, a server of the net, and what it did
unfoldable pub entry_turn : NetParts → List ℕ → Option Turn
entry_turn net text = do
  first ← at_space text
  stamp ← decimal_number first.0
  small ← need (nat_lt stamp (2 ^ 62))
  second ← at_space first.1
  server ← decimal_number second.0
  there ← need (is_server net server)
  act_turn net server second.1

-- a line by what stands before its first space, and what stands behind it
abbrev pub line_by : NetParts → List ℕ × List ℕ → Option TraceLine
line_by net line =
    if bytes_eq line.0 (codes "out") then Some Message
    else if bytes_eq line.0 (codes "entry") then option_map Entry (entry_turn net line.1)
    else None

-- A LINE OF A TRACE: the line of an entry, with its turn, or one that begins with `out` and a space
unfoldable pub trace_line : NetParts → List ℕ → Option TraceLine
trace_line net line = option_and_then (line_by net) (at_space line)

-- a trace begins at the first line whose first word is `trace`
abbrev pub is_first_word : List ℕ → List (List ℕ) → Bool
is_first_word word [] = false
is_first_word word (w ∷ ws) = bytes_eq w word

unfoldable pub begins_trace : List ℕ → Bool
begins_trace line = is_first_word (codes "trace") (words line)

-- which must be `trace` and a number
abbrev pub is_count : Option (List ℕ × List ℕ) → Bool
is_count None = false
is_count (Some p) = bytes_eq p.0 (codes "trace") && is_decimal p.1

unfoldable pub is_trace_head : List ℕ → Bool
is_trace_head line = is_count (at_space line)

-- lines of an output, of which the first has the number n: the lines behind the first of the trace, with the number of the first of them; or the
-- number of the line that is not as it must be, where the end counts as the line behind the last
abbrev pub trace_behind : ℕ → List (List ℕ) → Result (ℕ × List (List ℕ)) ℕ
trace_behind n [] = Err n
trace_behind n (line ∷ ls) =
    if begins_trace line then (if is_trace_head line then Ok (n + 1, ls) else Err n) else trace_behind (n + 1) ls

-- what comes next, unless a line is not of its form
abbrev pub then_on : {A B : Type 0} → Result A ℕ → (A → Result B ℕ) → Result B ℕ
then_on (Ok x) f = f x
then_on (Err line) f = Err line

-- the turns so far, and that of line n, where it shows one
abbrev pub with_line : ℕ → List (ℕ × Turn) → Option TraceLine → Result (List (ℕ × Turn)) ℕ
with_line n turns None = Err n
with_line n turns (Some Message) = Ok turns
with_line n turns (Some (Entry turn)) = Ok (turns ++ (n, turn) ∷ [])

-- the turns that the lines behind the first of a trace show, each with the number of its line, and the number of the line behind the last; or the first
-- line that is not of its form
abbrev pub turns_from : NetParts → ℕ → List (ℕ × Turn) → List (List ℕ) → Result (List (ℕ × Turn) × ℕ) ℕ
turns_from net n turns [] = Ok (turns, n)
turns_from net n turns (line ∷ ls) = then_on (with_line n turns (trace_line net line)) (λ more. turns_from net (n + 1) more ls)

-- WHAT AN OUTPUT SHOWS, whose first line has the number n: the turns of its trace with their lines, and the number of its end; or the first line that is
-- not of its form
abbrev pub shown_by : NetParts → ℕ → List (List ℕ) → Result (List (ℕ × Turn) × ℕ) ℕ
shown_by net n ls = then_on (trace_behind n ls) (λ behind. turns_from net behind.0 [] behind.1)
