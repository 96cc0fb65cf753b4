-- What contracts see of the core of a server of a hierarchy, and the server's state that it represents in a net.
use Rattle.std.specs.Prelude.{◌≡◌, ℕ, ◌==◌, false}
use Rattle.base.specs.Sets.{Has}
use Rattle.law_routing.specs.Net.{Net}
use Rattle.law_routing.specs.Server.{ServerState}
use Rattle.net_model.specs.Real.{real}
use Rattle.law_hierarchy.specs.Masters.{is_master}
use Rattle.net_model.specs.Nets.{with_adverts}
use Rattle.server_core.specs.Core.{CoreParts, RepresentsServer}

-- a core, with its master's number; 0 where it has none
pub record HierarchyParts : Type 0 where
  pub core : CoreParts
  pub master : ℕ

abbrev pub hierarchy_parts : CoreParts → ℕ → HierarchyParts
hierarchy_parts core master = record { core = core; master = master }

-- the net in which no advertisement steers a filter: its servers hold and install as those of a hierarchy do
abbrev pub unsteered : Net real → Net real
unsteered net = record net { adverts = false }

-- THE SERVER'S STATE that a core represents in a net: the core holds, has installed and has delivered what the state says, its clients' publishes are
-- refused by the semantics of the net, and its master is the server's
pub record RepresentsHierarchyServer (net : Net real) (parts : HierarchyParts) (state : ServerState real) : Type 0 where
  pub stands : RepresentsServer (unsteered net) parts.core state
  pub refuses : net.adverts ≡ with_adverts parts.core.net.semantics
  pub masters : (link : ℕ) → Has link parts.core.control.links → is_master real net parts.core.server link ≡ (link == parts.master)
