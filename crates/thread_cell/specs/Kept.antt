-- What a publisher has of what a core installed.
use Rattle.std.specs.Prelude.{◌≡◌, ◌≤◌, ◌<◌, ◌^◌, ℕ, nat_lt, List, length, filter}
use Rattle.filter_constraints.specs.Constraint.{ConstraintParts}
use Rattle.base.specs.Sets.{Has, IsRising}
use Rattle.law_routing.specs.Net.{Net, NetLaws}
use Rattle.law_routing.specs.Server.{ServerState}
use Rattle.net_model.specs.Real.{real}
use Rattle.net_tables.specs.Known.{known_filters}
use Rattle.match_routes.specs.Installed.{Pair, Installed}
use Rattle.server_core.specs.Core.{CoreParts, RepresentsServer, installed_from}
use Rattle.server_core.specs.Pending.{RepresentPairs}

-- a core represents some state of its server in some net
abbrev pub IsSomeServer : CoreParts → Type 0
IsSomeServer core = (net : Net real) × NetLaws real net × (state : ServerState real) × RepresentsServer net core state

-- pairs of numbers and interfaces represent what a core installed, which are filters of its net
pub record AreOf (core : CoreParts) (pairs : List Pair) : Type 0 where
  pub pairs_are : RepresentPairs (known_filters core.net.clients) (installed_from core) pairs
  pub known : (i : ℕ) (f : List ConstraintParts) → Has f (installed_from core i) → Has f (known_filters core.net.clients)

-- a forwarding of these numbers and interfaces is wide enough for a core: its numbers are those of the net's filters, and it has each interface of the
-- core and each that a link can have
pub record IsWideFor (core : CoreParts) (forwarding : Installed) : Type 0 where
  pub width : forwarding.width ≡ length (known_filters core.net.clients)
  pub links : (i : ℕ) → i ≤ 64 → Has i forwarding.interfaces
  pub reaches : (i : ℕ) → Has i core.interfaces → Has i forwarding.interfaces

-- the interfaces of clients among these
abbrev pub clients_among : List ℕ → List ℕ
clients_among interfaces = filter (λ i. nat_lt 64 i) interfaces

-- rising interfaces that have each number up to that of the last link, and each of these
pub record AreReachable (interfaces all : List ℕ) : Type 0 where
  pub rising : IsRising nat_lt all
  pub few : length all < 2 ^ 32
  pub links : (i : ℕ) → i ≤ 64 → Has i all
  pub reaches : (i : ℕ) → Has i interfaces → Has i all
