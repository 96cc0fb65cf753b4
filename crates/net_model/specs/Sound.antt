-- Defines sound nets: within the limits, and all that they name is there.
use Rattle.std.specs.Prelude.{◌≡◌, ◌≢◌, ℕ, ◌≤◌, not, List, [], ◌∷◌, length, map, AllPairs}
use Rattle.base.specs.Sets.{Has}
use Rattle.base.specs.Numbers.{sum_over, count}
use Rattle.base_tree.specs.Tree.{Topology, TreeLaws}
use Rattle.law_routing.specs.Net.{NeverFalls}
use Rattle.law_routing.specs.Clients.{is_publish}
use Rattle.law_phases.specs.Trees.{RiseFrom}
use Rattle.net_model.specs.Real.{real}
use Rattle.filter_text.specs.declared.command.Command.{Command}
use Rattle.net_model.specs.declared.turn.Turn.{Turn}
use Rattle.net_model.specs.declared.turn.Turn.TheVariants as turns
use Rattle.net_model.specs.Parts.{ClientParts, NetParts}
use Rattle.net_model.specs.Meaning.{command_of, phased_command}
use Rattle.net_model.specs.Nets.{first_tree}

-- a server of a tree of so many
abbrev pub IsAmong : ℕ → ℕ → Type 0
IsAmong count number = (1 ≤ number) × (number ≤ count)

-- trees over the same servers, the first from phase 0 on, with first phases that rise strictly
pub record AreTrees (first : ℕ × Topology) (later : List (ℕ × Topology)) : Type 0 where
  pub begins : first.0 ≡ 0
  pub rising : RiseFrom 0 later
  pub tree : TreeLaws first.1
  pub trees : (next : ℕ × Topology) → Has next later → TreeLaws next.1
  pub same : (next : ℕ × Topology) → Has next later → next.1.count ≡ first.1.count

-- there is at least one tree
abbrev pub HasTrees : List (ℕ × Topology) → Type 0
HasTrees [] = ⊥
HasTrees (first ∷ later) = AreTrees first later

-- how many publishes a client has
abbrev pub publishes : ClientParts → ℕ
publishes client = sum_over (λ step. count (is_publish real (command_of step.1))) client.script

-- how many other commands
abbrev pub controls : ClientParts → ℕ
controls client = sum_over (λ step. count (not (is_publish real (command_of step.1)))) client.script

-- a client: it lives at one of so many servers, has at most 4,095 barriers, and its commands' phases never fall and are at most its barriers
pub record IsSoundClient (servers : ℕ) (client : ClientParts) : Type 0 where
  pub home : IsAmong servers client.home
  pub barriers : client.barriers ≤ 4095
  pub never_falls : NeverFalls real (map phased_command client.script)
  pub within : (step : ℕ × Command) → Has step client.script → step.0 ≤ client.barriers

-- a turn names clients and servers that are there
abbrev pub IsSoundTurn : ℕ → ℕ → Turn → Type 0
IsSoundTurn servers clients (turns.Command client) = IsAmong clients client
IsSoundTurn servers clients (turns.Receive server from) = IsAmong servers server × IsAmong servers from
IsSoundTurn servers clients (turns.TableUpdate server) = IsAmong servers server

-- a net of version 1 or 2: its trees, at most 1,024 clients of different names, at most 4,096 commands that are no publishes and 100,000 that are,
-- and turns of its own servers and clients
pub record IsSound (net : NetParts) : Type 0 where
  pub version : (1 ≤ net.version) × (net.version ≤ 2)
  pub trees : HasTrees net.trees
  pub few : length net.clients ≤ 1024
  pub names : AllPairs (λ one other. one.name ≢ other.name) net.clients
  pub clients : (client : ClientParts) → Has client net.clients → IsSoundClient (first_tree net.trees).count client
  pub controls : sum_over controls net.clients ≤ 4096
  pub publishes : sum_over publishes net.clients ≤ 100000
  pub turns : (turn : ℕ × Turn) → Has turn net.schedule → IsSoundTurn (first_tree net.trees).count (length net.clients) turn.1
