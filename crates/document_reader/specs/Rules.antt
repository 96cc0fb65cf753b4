-- What each line of a document does to what stands so far: one rule for each kind of line, whose tests stand in their order.
use Rattle.std.specs.Prelude.{Bool, true, false, not, ℕ, ◌+◌, List, [], ◌∷◌, ◌++◌, ◌&&◌, nat_eq}
use Rattle.std.specs.Prelude.{nat_lt, nat_le, length, if◌then◌else◌, Option, Some, None, Result, Ok, codes}
use Rattle.std.specs.Option.{is_some}
use Rattle.std.specs.Str.{bytes_eq}
use Rattle.base_tree.specs.Graph.{has_edge}
use Rattle.filter_text.specs.declared.command.Command.{Command}
use Rattle.filter_text.specs.declared.command.Command.TheVariants as commands
use Rattle.filter_text.specs.declared.semantics.Semantics.{Semantics}
use Rattle.filter_text.specs.declared.semantics.Semantics.TheVariants.{Subscription, Advertisement}
use Rattle.net_model.specs.declared.turn.Turn.{Turn}
use Rattle.net_model.specs.declared.turn.Turn.TheVariants as turns
use Rattle.document_reader.specs.Answer.{◌>>=◌, need, want}
use Rattle.document_reader.specs.Words.{name_and_number, one, one_name, one_number, two_numbers}
use Rattle.document_reader.specs.Drawn.{are_neighbours, are_servers, is_server, are_joined, undrawn, with_edge, with_phase}
use Rattle.document_reader.specs.Drafts.{barriers_at, begun, changed_at, client_at, has_script, scriptless, with_barrier, with_command}
use Rattle.document_reader.specs.Tally.{CommandCounts, control_rule, publish_rule}
use Rattle.document_reader.specs.Commands.{command_of}
use Rattle.document_reader.specs.declared.fault.Fault.{Fault}
use Rattle.document_reader.specs.declared.fault.Fault.TheVariants as is
use Rattle.document_reader.specs.declared.version.Version.{Version}
use Rattle.document_reader.specs.declared.version.Version.TheVariants.{One, Two}
use Rattle.document_reader.specs.declared.state.State.{State}
use Rattle.document_reader.specs.declared.state.Place.TheVariants as at

-- the number of a version
abbrev pub version_number : Version → ℕ
version_number One = 1
version_number Two = 2

-- the version of a word
abbrev pub version_named : List ℕ → Option Version
version_named w =
    if bytes_eq w (codes "1") then Some One
    else if bytes_eq w (codes "2") then Some Two
    else None

-- the semantics of a word
abbrev pub semantics_named : List ℕ → Option Semantics
semantics_named w =
    if bytes_eq w (codes "subscription") then Some Subscription
    else if bytes_eq w (codes "advertisement") then Some Advertisement
    else None

abbrev pub Answer : Type 0
Answer = Result State Fault

-- The rules are for what stands, the first word of the line, and its other words.

-- `siena 1`, `siena 2`
unfoldable pub header_rule : State → List ℕ → List (List ℕ) → Answer
header_rule s w ws = do
  siena ← need (bytes_eq w (codes "siena")) is.Header
  word ← want (one ws) is.Header
  version ← want (version_named word) is.Header
  Ok (record s { place = at.Semantics; version = version })

-- `semantics subscription`, `semantics advertisement`
unfoldable pub semantics_rule : State → List ℕ → List (List ℕ) → Answer
semantics_rule s w ws = do
  here ← need (bytes_eq w (codes "semantics")) is.Order
  word ← want (one ws) is.Words
  semantics ← want (semantics_named word) is.Words
  Ok (record s { place = at.Servers; semantics = semantics })

-- `servers N`
unfoldable pub servers_rule : State → List ℕ → List (List ℕ) → Answer
servers_rule s w ws = do
  here ← need (bytes_eq w (codes "servers")) is.Order
  n ← want (one_number ws) is.Words
  fits ← need (is_server 64 n) is.Range
  Ok (record s { place = at.Edges; trees = undrawn n })

-- `edge A B`
unfoldable pub edge_rule : State → List (List ℕ) → Answer
edge_rule s ws = do
  e ← want (two_numbers ws) is.Words
  fits ← need (are_servers s.trees.servers e) is.Range
  once ← need (not (has_edge s.trees.edges e.0 e.1)) is.Twice
  tree ← need (not (are_joined s.trees.edges e.0 e.1)) is.Loop
  Ok (record s { trees = with_edge s.trees e })

-- `phase K`
unfoldable pub phase_rule : State → List (List ℕ) → Answer
phase_rule s ws = do
  k ← want (one_number ws) is.Words
  fits ← need (nat_lt s.trees.phase k && nat_le k 4095) is.Range
  Ok (record s { trees = with_phase s.trees k })

-- `client NAME SERVER`
unfoldable pub client_rule : State → List (List ℕ) → Answer
client_rule s ws = do
  c ← want (name_and_number ws) is.Words
  fits ← need (is_server s.trees.servers c.1) is.Range
  new ← need (not (is_some (client_at s.clients c.0))) is.Name
  room ← need (nat_lt (length s.clients) 1024) is.Count
  Ok (record s { place = at.Clients; clients = s.clients ++ scriptless c.0 c.1 ∷ [] })

-- `script NAME`
unfoldable pub script_rule : State → List ℕ → List (List ℕ) → Answer
script_rule s w ws = do
  whole ← need (bytes_eq w (codes "script")) is.Words
  name ← want (one_name ws) is.Words
  client ← want (client_at s.clients name) is.Name
  first ← need (not (has_script s.clients client)) is.Name
  Ok (record s { place = at.Scripts; clients = changed_at client begun s.clients; client = client })

-- a line of this word alone
abbrev pub is_alone : List ℕ → List ℕ → List (List ℕ) → Bool
is_alone text w ws = bytes_eq w text && nat_eq (length ws) 0

-- `barrier`
unfoldable pub barrier_rule : State → List ℕ → List (List ℕ) → Answer
barrier_rule s w ws = do
  alone ← need (is_alone (codes "barrier") w ws) is.Words
  room ← need (nat_lt (barriers_at s.clients s.client) 4095) is.Count
  Ok (record s { clients = changed_at s.client with_barrier s.clients })

-- the counts after one command more, on a line of so many bytes, in a document of so many servers and clients
abbrev pub count_rule : CommandCounts → Command → ℕ → ℕ → ℕ → Result CommandCounts Fault
count_rule t (commands.Subscribe f) bytes servers clients = control_rule t false bytes servers
count_rule t (commands.Unsubscribe f) bytes servers clients = control_rule t true bytes servers
count_rule t (commands.Advertise a) bytes servers clients = control_rule t false bytes servers
count_rule t (commands.Unadvertise a) bytes servers clients = control_rule t true bytes servers
count_rule t (commands.Publish n) bytes servers clients = publish_rule t bytes clients

-- a command, by its whole line
unfoldable pub command_rule : State → List ℕ → Answer
command_rule s line = do
  command ← command_of (version_number s.version) line
  tally ← count_rule s.tally command (length line) s.trees.servers (length s.clients)
  Ok (record s { clients = changed_at s.client (with_command command) s.clients; tally = tally })

-- `schedule`
unfoldable pub schedule_rule : State → List ℕ → List (List ℕ) → Answer
schedule_rule s w ws = do
  alone ← need (is_alone (codes "schedule") w ws) is.Words
  Ok (record s { place = at.Schedule })

-- a turn on line n
abbrev pub with_turn : State → ℕ → Turn → State
with_turn s n turn = record s { schedule = s.schedule ++ (n, turn) ∷ [] }

-- `command NAME`
unfoldable pub command_turn : State → ℕ → List (List ℕ) → Answer
command_turn s n ws = do
  name ← want (one_name ws) is.Words
  client ← want (client_at s.clients name) is.Name
  Ok (with_turn s n (turns.Command (client + 1)))

-- `take A B`
unfoldable pub take_turn : State → ℕ → List (List ℕ) → Answer
take_turn s n ws = do
  e ← want (two_numbers ws) is.Words
  fits ← need (are_servers s.trees.servers e && are_neighbours s.trees e) is.Range
  Ok (with_turn s n (turns.Receive e.0 e.1))

-- `version A`
unfoldable pub version_turn : State → ℕ → List (List ℕ) → Answer
version_turn s n ws = do
  a ← want (one_number ws) is.Words
  fits ← need (is_server s.trees.servers a) is.Range
  Ok (with_turn s n (turns.TableUpdate a))
