-- What the code keeps of the core of a server of a hierarchy.
use Rattle.std.specs.Prelude.{◌≡◌, ℕ, List, map}
use Rattle.base.specs.Sets.{Has}
use Rattle.filter_text.specs.declared.semantics.Semantics.TheVariants.{Subscription}
use Rattle.net_model.specs.Parts.{NetParts}
use Rattle.law_routing.specs.Server.{client_interface}
use Rattle.server_spec.specs.Session.{SessionParts, session_parts}
use Rattle.server_core.specs.Clients.{client_numbers}
use Rattle.server_core.specs.Core.{CoreParts}
use Rattle.server_core.specs.Kept.{IsCore}
use Rattle.server_core.specs.Linked.{interfaces_on}

-- a session as it would be under subscription semantics
abbrev pub plain : SessionParts → SessionParts
plain s = session_parts s.client Subscription s.script s.taken s.inbox s.room s.planned

-- a core with its sessions so
abbrev pub plain_core : CoreParts → CoreParts
plain_core core = record core { clients = map plain core.clients }

-- no advertisement steers it, its sessions are of the net's semantics, it keeps what every core keeps under subscription semantics, and the interfaces
-- are the links and those of the clients
pub record IsHierarchyKept (interfaces : List ℕ) (net : NetParts) (core : CoreParts) : Type 0 where
  pub kept : IsCore (plain_core core)
  pub plainly : core.control.semantics ≡ Subscription
  pub sessions : (s : SessionParts) → Has s core.clients → s.semantics ≡ core.net.semantics
  pub of_net : net ≡ core.net
  pub whole : interfaces ≡ interfaces_on core.control.links (client_numbers core.clients)
  pub linked : (link : ℕ) → Has link core.control.links → Has link interfaces
  pub reached : (s : SessionParts) → Has s core.clients → Has (client_interface s.client) interfaces
