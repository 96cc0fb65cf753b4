-- What contracts see of a server's core, and the server's state that it represents in a net.
use Rattle.std.specs.Prelude.{◌≡◌, ℕ, true, List, [], map}
use Rattle.filter_constraints.specs.Constraint.{ConstraintParts}
use Rattle.base.specs.Sets.{Has}
use Rattle.law_routing.specs.Net.{Net}
use Rattle.law_routing.specs.Server.{ServerState, is_among, interfaces}
use Rattle.net_model.specs.Real.{real}
use Rattle.server_spec.specs.Holdings.{Holding, held_from}
use Rattle.server_spec.specs.Control.{Controlled}
use Rattle.server_spec.specs.Routing.{RepresentsControl}
use Rattle.net_model.specs.Parts.{NetParts}
use Rattle.net_model.specs.Meaning.{phased_command, deliveries_of}
use Rattle.server_spec.specs.Session.{SessionParts}
use Rattle.match_routes.specs.declared.table_change.TableChange.{TableChange}
use Rattle.server_core.specs.Clients.{client_numbers, at_client, emptied}
use Rattle.server_core.specs.Pending.{is_some_there}
use Rattle.server_core.specs.Ledger.{LedgerParts}

-- a core: the net whose run it is in, its server, its interfaces, what is held from whom, what was installed, what changed since, its clients by rising
-- numbers, and its clock
pub record CoreParts : Type 0 where
  pub net : NetParts
  pub server : ℕ
  pub interfaces : List ℕ
  pub control : Controlled
  pub installed : List (Holding (List ConstraintParts))
  pub pending : List TableChange
  pub clients : List SessionParts
  pub clock : ℕ

-- a core of these parts
abbrev pub core_parts : ℕ → LedgerParts → List SessionParts → ℕ → CoreParts
core_parts server ledger clients clock = record {
  net = ledger.net;
  server = server;
  interfaces = ledger.interfaces;
  control = ledger.control;
  installed = ledger.installed;
  pending = ledger.pending;
  clients = clients;
  clock = clock;
}

-- a core that handed on what one of its clients received
abbrev pub without_inbox : ℕ → CoreParts → CoreParts
without_inbox client core = record core { clients = at_client client emptied core.clients }

-- the filters of an interface as they were last installed
abbrev pub installed_from : CoreParts → ℕ → List (List ConstraintParts)
installed_from core interface = held_from real.before interface core.installed

-- THE SERVER'S STATE that a core represents in a net: it is a server of the net, holds and has installed what the state says (of what is no interface it
-- installed nothing), and has the net's clients of this server, with their scripts, with as many commands executed and with what was delivered
pub record RepresentsServer (net : Net real) (core : CoreParts) (state : ServerState real) : Type 0 where
  pub among : is_among core.server net.servers ≡ true
  pub control : RepresentsControl net core.server core.control state
  pub installed : (i : ℕ) → Has i (interfaces real net core.server) → state.installed i ≡ installed_from core i
  pub installed_apart : (i : ℕ) → (Has i (interfaces real net core.server) → ⊥) → installed_from core i ≡ []
  pub pending : state.pending ≡ is_some_there core.pending
  pub clients : net.clients core.server ≡ client_numbers core.clients
  pub scripts : (s : SessionParts) → Has s core.clients → net.script s.client ≡ map phased_command s.script
  pub taken : (s : SessionParts) → Has s core.clients → state.done s.client ≡ s.taken
  pub inboxes : (s : SessionParts) → Has s core.clients → s.inbox ≡ deliveries_of (state.inbox s.client)
