-- A net with trees by phase, and what its state and its journals are, whatever the tree.
use Rattle.std.specs.Prelude.{◌≡◌, ℕ, suc, ◌≤◌, ◌<◌, nat_le, ◌==◌, Bool, cond, List, [], ◌∷◌, map}
use Rattle.base.specs.Sets.{Has}
use Rattle.base.specs.Numbers.{IsDistinct}
use Rattle.base_tree.specs.Hops.{AreHops}
use Rattle.law_machine.specs.Machine.{Act, Stamped, Machine}
use Rattle.law_machine.specs.Runs.{IsQuiet, IsThrough}
use Rattle.law_routing.specs.Theory.{Theory}
use Rattle.law_routing.specs.Net.{Net, PhasedCommand, NeverFalls}
use Rattle.law_routing.specs.Server.{Message, ServerState}
use Rattle.law_routing.specs.Step.{Task}
use Rattle.law_routing.specs.Routing.{routing_machine, Network, NetEntry}
use Rattle.law_routing.specs.Rest.{IsAtRest}

-- a tree of servers: the neighbours of each, rising, and the first server after one on the way to another
pub record Tree : Type 0 where
  pub links : ℕ → List ℕ
  pub hop : ℕ → ℕ → ℕ

-- of a tree and later ones with their first phases, in any form: the last whose first phase is at most this phase
abbrev pub tree_after : {T : Type 0} → T → List (ℕ × T) → ℕ → T
tree_after tree [] phase = tree
tree_after tree (next ∷ later) phase = cond (nat_le next.0 phase) (tree_after next.1 later phase) tree

-- how many of the later trees have come by this phase
abbrev pub trees_by : {T : Type 0} → List (ℕ × T) → ℕ → ℕ
trees_by [] phase = 0
trees_by (next ∷ later) phase = cond (nat_le next.0 phase) (suc (trees_by later phase)) 0

-- first phases rise, from above this one
abbrev pub RiseFrom : {T : Type 0} → ℕ → List (ℕ × T) → Type 0
RiseFrom phase [] = Unit {0}
RiseFrom phase (next ∷ later) = (phase < next.0) × RiseFrom next.0 later

-- what is asked of a tree: it joins these servers, which are numbered from 1 to 64
pub record JoinsServers (servers : List ℕ) (tree : Tree) : Type 0 where
  pub hops : AreHops servers tree.links tree.hop
  pub small : (server link : ℕ) → Has link (tree.links server) → link ≤ 64

-- an entry of a journal, whatever the tree: its stamp, the server, the act, and the neighbours that got a message
pub record JournalEntry : Type 0 where
  pub stamp : ℕ
  pub server : ℕ
  pub act : Act Task
  pub outs : List ℕ

module _ (theory : Theory) where
  -- the state of the network, whatever the tree: of each server its state and clock, of each link of the tree in force what was put
  -- and how much of it is received
  pub record State : Type 0 where
    pub state : ℕ → ServerState theory
    pub clock : ℕ → ℕ
    pub put : ℕ → ℕ → List (Stamped (Message theory))
    pub taken : ℕ → ℕ → ℕ

  -- the state as that of a net on one tree
  abbrev pub on : (net : Net theory) → State → Network theory net
  on net state = record { state = state.state; clock = state.clock; put = state.put; taken = state.taken }

  -- the state of a net on one tree, without its tree
  abbrev pub off : (net : Net theory) → Network theory net → State
  off net network = record { state = network.state; clock = network.clock; put = network.put; taken = network.taken }

  -- an entry as one of a net on one tree
  abbrev pub entry_on : (net : Net theory) → JournalEntry → NetEntry theory net
  entry_on net entry = record { stamp = entry.stamp; server = entry.server; act = entry.act; outs = entry.outs }

  -- an entry of a net on one tree, without its tree
  abbrev pub entry_off : (net : Net theory) → NetEntry theory net → JournalEntry
  entry_off net entry = record { stamp = entry.stamp; server = entry.server; act = entry.act; outs = entry.outs }

  -- a journal as one of a net on one tree
  abbrev pub entries_on : (net : Net theory) → List JournalEntry → List (NetEntry theory net)
  entries_on net entries = map (entry_on net) entries

  -- a net with trees by phase: as a net, with a first tree and later ones
  pub record PhasedNet : Type 0 where
    pub adverts : Bool
    pub servers : List ℕ
    pub tree : Tree
    pub later : List (ℕ × Tree)
    pub home : ℕ → ℕ
    pub clients : ℕ → List ℕ
    pub script : ℕ → List (PhasedCommand theory)

  -- what is asked of it: all its trees join its servers, first phases rise from 0, and what is asked of every net
  pub record PhasedNetLaws (net : PhasedNet) : Type 0 where
    pub first : JoinsServers net.servers net.tree
    pub later : (next : ℕ × Tree) → Has next net.later → JoinsServers net.servers next.1
    pub rising : RiseFrom 0 net.later
    pub counted : (server client : ℕ) → Has client (net.clients server) → 1 ≤ client
    pub housed : (client : ℕ) → Has (net.home client) net.servers
    pub lives : (server client : ℕ) → Has client (net.clients server) → net.home client ≡ server
    pub single : (server : ℕ) → IsDistinct (net.clients server)
    pub phased : (client : ℕ) → NeverFalls theory (net.script client)

  module _ (net : PhasedNet) where
    -- the tree in force at a phase
    abbrev pub tree_at : ℕ → Tree
    tree_at phase = tree_after net.tree net.later phase

    -- the net on the tree of a phase
    abbrev pub net_at : ℕ → Net theory
    net_at phase = record {
      adverts = net.adverts;
      servers = net.servers;
      links = (tree_at phase).links;
      hop = (tree_at phase).hop;
      home = net.home;
      clients = net.clients;
      script = net.script;
    }

    -- its servers as a machine
    abbrev pub machine_at : ℕ → Machine
    machine_at phase = routing_machine theory (net_at phase)

    -- the state on the tree of a phase
    abbrev pub at_phase : (phase : ℕ) → State → Network theory (net_at phase)
    at_phase phase state = on (net_at phase) state

    -- two phases have one tree: as many trees have come by the one as by the other
    abbrev pub is_one_tree : ℕ → ℕ → Bool
    is_one_tree phase other = trees_by net.later phase == trees_by net.later other

    -- with the tree of this phase in force, all links are empty and nothing is pending
    abbrev pub IsQuietOn : ℕ → State → Type 0
    IsQuietOn phase state = IsQuiet (machine_at phase) (at_phase phase state)

    -- and all commands of the phases below another one are executed
    abbrev pub IsThroughOn : ℕ → State → ℕ → Type 0
    IsThroughOn phase state next = IsThrough (machine_at phase) (at_phase phase state) next

    -- with the tree of this phase in force, the network is at rest
    abbrev pub IsAtRestOn : ℕ → State → Type 0
    IsAtRestOn phase state = IsAtRest theory (net_at phase) (at_phase phase state)
