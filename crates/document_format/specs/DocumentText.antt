-- Defines the canonical text of a net: one line for each thing that a document says, words with single spaces, no comments and no blank lines.
use Rattle.std.specs.Prelude.{ℕ, ◌+◌, ◌-◌, zero, suc, nat_eq, Bool, List, [], ◌∷◌, ◌++◌, ◌&&◌, map, length, codes, Option, Some, None, if◌then◌else◌}
use Rattle.std.specs.List.{flat_map}
use Rattle.std.specs.Fmt.{decimal}
use Rattle.base_tree.specs.Tree.{Topology}
use Rattle.filter_text.specs.declared.command.Command.{Command}
use Rattle.filter_text.specs.declared.semantics.Semantics.{Semantics}
use Rattle.filter_text.specs.declared.semantics.Semantics.TheVariants.{Subscription, Advertisement}
use Rattle.document_format.specs.CommandText.{command_text}
use Rattle.net_model.specs.declared.turn.Turn.{Turn}
use Rattle.net_model.specs.declared.turn.Turn.TheVariants as turns
use Rattle.net_model.specs.Parts.{ClientParts, NetParts}
use Rattle.net_model.specs.Nets.{client_name, first_tree, later_trees}
use Rattle.document_format.specs.Edges.{edges_of}

abbrev pub semantics_word : Semantics → List ℕ
semantics_word Subscription = codes "subscription"
semantics_word Advertisement = codes "advertisement"

-- `siena 1`, `semantics subscription`, `servers N`
abbrev pub first_lines : NetParts → List (List ℕ)
first_lines net =
    (codes "siena " ++ decimal net.version) ∷ (codes "semantics " ++ semantics_word net.semantics)
    ∷ (codes "servers " ++ decimal (first_tree net.trees).count) ∷ []

-- `edge A B`
abbrev pub edge_line : ℕ × ℕ → List ℕ
edge_line e = codes "edge " ++ decimal e.0 ++ 32 ∷ decimal e.1

-- a tree by its edges
abbrev pub tree_lines : Topology → List (List ℕ)
tree_lines tree = map edge_line (edges_of tree)

-- `phase K`, and the tree from this phase on
abbrev pub phase_lines : ℕ × Topology → List (List ℕ)
phase_lines later = (codes "phase " ++ decimal later.0) ∷ tree_lines later.1

-- the trees, in the order of their phases
abbrev pub trees_lines : List (ℕ × Topology) → List (List ℕ)
trees_lines trees = tree_lines (first_tree trees) ++ flat_map phase_lines (later_trees trees)

-- `client NAME SERVER`
abbrev pub client_line : ClientParts → List ℕ
client_line client = codes "client " ++ client.name ++ 32 ∷ decimal client.home

-- so many lines `barrier`
abbrev pub barrier_lines : ℕ → List (List ℕ)
barrier_lines zero = []
barrier_lines (suc n) = codes "barrier" ∷ barrier_lines n

-- commands, of which the first stands behind so many barriers, each in its phase, and in the end the barriers that are left
abbrev pub step_lines : ℕ → List (ℕ × Command) → ℕ → List (List ℕ)
step_lines phase [] barriers = barrier_lines (barriers - phase)
step_lines phase (step ∷ steps) barriers = barrier_lines (step.0 - phase) ++ command_text step.1 ∷ step_lines step.0 steps barriers

-- a client has no script, or an empty one
abbrev pub is_idle : ClientParts → Bool
is_idle client = nat_eq (length client.script) 0 && nat_eq client.barriers 0

-- `script NAME`, and its commands and barriers; a client with neither has none
abbrev pub script_lines : ClientParts → List (List ℕ)
script_lines client = if is_idle client then [] else (codes "script " ++ client.name) ∷ step_lines 0 client.script client.barriers

-- `command NAME`, `take A B`, `version A`
abbrev pub turn_line : List ClientParts → Turn → List ℕ
turn_line clients (turns.Command client) = codes "command " ++ client_name clients client
turn_line clients (turns.Receive server from) = codes "take " ++ decimal server ++ 32 ∷ decimal from
turn_line clients (turns.TableUpdate server) = codes "version " ++ decimal server

-- `schedule`, and its turns; without turns there is none
abbrev pub schedule_lines : List ClientParts → List (ℕ × Turn) → List (List ℕ)
schedule_lines clients [] = []
schedule_lines clients (turn ∷ turns) = codes "schedule" ∷ map (λ t. turn_line clients t.1) (turn ∷ turns)

-- the lines before the schedule
abbrev pub lines_before : NetParts → List (List ℕ)
lines_before net = first_lines net ++ (trees_lines net.trees ++ (map client_line net.clients ++ flat_map script_lines net.clients))

-- a line with its end, a newline (10)
abbrev pub ended : List ℕ → List ℕ
ended line = line ++ 10 ∷ []

-- THE CANONICAL TEXT OF A NET
abbrev pub document_text : NetParts → List ℕ
document_text net = flat_map ended (lines_before net ++ schedule_lines net.clients net.schedule)

-- turns on the lines from this number on
abbrev pub on_lines : ℕ → List (ℕ × Turn) → List (ℕ × Turn)
on_lines n [] = []
on_lines n (turn ∷ turns) = (n, turn.1) ∷ on_lines (suc n) turns

-- the net, with its turns on their lines of the canonical text: a net knows of its document these line numbers alone
abbrev pub as_written : NetParts → NetParts
as_written net = record net { schedule = on_lines (length (lines_before net) + 2) net.schedule }
