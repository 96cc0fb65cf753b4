-- Defines the net over trees by phase that a net is, at the real theory of filters.
use Rattle.std.specs.Prelude.{ℕ, zero, suc, max, ◌==◌, Bool, true, false, List, [], ◌∷◌, length, map, filter, slice_get, Option, Some, None}
use Rattle.std.specs.List.{range_with_len}
use Rattle.base_tree.specs.Tree.{Topology, topology, servers_of, links_of, hop_of}
use Rattle.law_machine.specs.Machine.{Act, Did, Received}
use Rattle.law_routing.specs.Net.{PhasedCommand}
use Rattle.law_routing.specs.Step.{Task, NextCommand, TableUpdate}
use Rattle.law_phases.specs.Trees.{Tree, PhasedNet, tree_after}
use Rattle.net_model.specs.Real.{real}
use Rattle.filter_text.specs.declared.semantics.Semantics.{Semantics}
use Rattle.filter_text.specs.declared.semantics.Semantics.TheVariants.{Subscription, Advertisement}
use Rattle.net_model.specs.declared.turn.Turn.{Turn}
use Rattle.net_model.specs.declared.turn.Turn.TheVariants as turns
use Rattle.net_model.specs.Parts.{ClientParts, NetParts}
use Rattle.net_model.specs.Meaning.{phased_command}

-- whether advertisements steer notifications too
abbrev pub with_adverts : Semantics → Bool
with_adverts Subscription = false
with_adverts Advertisement = true

-- a tree by its neighbours and next servers
abbrev pub tree_of : Topology → Tree
tree_of tree = record { links = links_of tree; hop = hop_of tree }

-- a tree with its first phase
abbrev pub phased_tree : ℕ × Topology → ℕ × Tree
phased_tree tree = (tree.0, tree_of tree.1)

-- the first tree of a list; without one it does not matter
abbrev pub first_tree : List (ℕ × Topology) → Topology
first_tree [] = topology 0 [] []
first_tree (tree ∷ trees) = tree.1

-- the later ones
abbrev pub later_trees : List (ℕ × Topology) → List (ℕ × Topology)
later_trees [] = []
later_trees (tree ∷ trees) = trees

-- the client of a number, from 1
abbrev pub client_at : List ClientParts → ℕ → Option ClientParts
client_at clients zero = None
client_at clients (suc place) = slice_get clients place

-- the name of a client, where there is one
abbrev pub name_in : Option ClientParts → List ℕ
name_in None = []
name_in (Some client) = client.name

-- the name of a client by its number, from 1
abbrev pub client_name : List ClientParts → ℕ → List ℕ
client_name clients number = name_in (client_at clients number)

-- the clients of a net, by their numbers
abbrev pub clients_in : NetParts → List ℕ
clients_in net = range_with_len 1 (length net.clients)

-- something of each client of a net, in the order of the net
abbrev pub of_clients : {A : Type 0} → NetParts → (ℕ → A) → List A
of_clients net f = map f (clients_in net)

-- the server of a client, where there is one; else server 1
abbrev pub home_in : Option ClientParts → ℕ
home_in None = 1
home_in (Some client) = client.home

-- the commands of a client, where there is one
abbrev pub script_in : Option ClientParts → List (PhasedCommand real)
script_in None = []
script_in (Some client) = map phased_command client.script

-- the most barriers of a client
abbrev pub most_barriers : List ClientParts → ℕ
most_barriers [] = 0
most_barriers (client ∷ clients) = max client.barriers (most_barriers clients)

-- a net has one phase more than the most barriers
abbrev pub phases_of : NetParts → ℕ
phases_of net = suc (most_barriers net.clients)

-- its servers, which are those of its first tree
abbrev pub servers_in : NetParts → List ℕ
servers_in net = servers_of (first_tree net.trees)

-- the tree of a phase: the last one whose first phase is at most that
abbrev pub topology_at : NetParts → ℕ → Topology
topology_at net phase = tree_after (first_tree net.trees) (later_trees net.trees) phase

-- the server of a client
abbrev pub home_of : NetParts → ℕ → ℕ
home_of net client = home_in (client_at net.clients client)

-- the clients of a server, rising
abbrev pub clients_of : NetParts → ℕ → List ℕ
clients_of net server = filter (λ client. home_of net client == server) (clients_in net)

-- the commands of a client, in order
abbrev pub script_of : NetParts → ℕ → List (PhasedCommand real)
script_of net client = script_in (client_at net.clients client)

-- THE NET OF THE RUN LAWS
abbrev pub phased_net : NetParts → PhasedNet real
phased_net net = record {
  adverts = with_adverts net.semantics;
  servers = servers_in net;
  tree = tree_of (first_tree net.trees);
  later = map phased_tree (later_trees net.trees);
  home = home_of net;
  clients = clients_of net;
  script = script_of net;
}

-- a turn of a schedule: a server and its act
abbrev pub turn_of : NetParts → Turn → ℕ × Act Task
turn_of net (turns.Command client) = (home_of net client, Did (NextCommand client))
turn_of net (turns.Receive server from) = (server, Received from)
turn_of net (turns.TableUpdate server) = (server, Did TableUpdate)
