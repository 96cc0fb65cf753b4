-- What the code keeps of a network: the cores of its servers with what they installed, and what is on its links.
use Rattle.std.specs.Prelude.{◌≡◌, ℕ, suc, List, length, slice_get, Some}
use Rattle.filter_constraints.specs.Constraint.{ConstraintParts}
use Rattle.base.specs.Sets.{Has}
use Rattle.match_routes.specs.Installed.{Installed}
use Rattle.law_routing.specs.Routing.{empty_server}
use Rattle.law_phases.specs.Trees.{State, net_at}
use Rattle.net_model.specs.Real.{real}
use Rattle.net_model.specs.Parts.{NetParts}
use Rattle.net_model.specs.Nets.{phased_net, first_tree}
use Rattle.net_model.specs.Sound.{IsSound}
use Rattle.net_tables.specs.Known.{known_filters}
use Rattle.net_turns.specs.Network.{moment_by, IsLegal}
use Rattle.server_core.specs.Core.{CoreParts, RepresentsServer, installed_from}
use Rattle.server_core.specs.Pending.{RepresentPairs}
use Rattle.sequential_network.specs.Links.{AreOnLinks}
use Rattle.sequential_network.specs.Acted.{Servers}

-- what interfaces have are filters of the net, and pairs of their numbers and of these interfaces represent it
pub record RepresentsForwarding (net : NetParts) (interfaces : List ℕ) (installed : ℕ → List (List ConstraintParts)) (forwarding : Installed) : Type 0 where
  pub width : forwarding.width ≡ length (known_filters net.clients)
  pub interfaces_are : forwarding.interfaces ≡ interfaces
  pub pairs : RepresentPairs (known_filters net.clients) installed forwarding.pairs
  pub known : (i : ℕ) (f : List ConstraintParts) → Has f (installed i) → Has f (known_filters net.clients)

-- a core with the pairs that it installed
abbrev pub IsPlace : CoreParts → Installed → Type 0
IsPlace core forwarding = RepresentsForwarding core.net core.interfaces (installed_from core) forwarding

-- the cores of all servers of a net, by rising number, each at its server's state and clock, on the tree of a phase
pub record AreServers (net : NetParts) (phase : ℕ) (state : State real) (cores : List CoreParts) : Type 0 where
  pub all : length cores ≡ (first_tree net.trees).count
  pub nets : (place : ℕ) (core : CoreParts) → slice_get cores place ≡ Some core → core.net ≡ net
  pub number : (place : ℕ) (core : CoreParts) → slice_get cores place ≡ Some core → core.server ≡ suc place
  pub states : (place : ℕ) (core : CoreParts) → slice_get cores place ≡ Some core
      → RepresentsServer (net_at real (phased_net net) phase) core (state.state (suc place))
  pub clocks : (place : ℕ) (core : CoreParts) → slice_get cores place ≡ Some core → core.clock ≡ state.clock (suc place)

-- the core of a server before its first step
pub record IsFirst (net : NetParts) (server : ℕ) (core : CoreParts) : Type 0 where
  pub net_is : core.net ≡ net
  pub server_is : core.server ≡ server
  pub clock : core.clock ≡ 0
  pub state : RepresentsServer (net_at real (phased_net net) 0) core (empty_server real (net_at real (phased_net net) 0))

-- the cores of the first servers before their first steps
abbrev pub ArePlacesUpTo : NetParts → List CoreParts → Type 0
ArePlacesUpTo net cores = (place : ℕ) (core : CoreParts) → slice_get cores place ≡ Some core → IsFirst net (suc place) core

-- WHAT A NETWORK KEEPS: its net is sound and its journal a legal run, at whose end the phase is the one in hand, and the cores and the links are those
-- of the state then
pub record IsNetwork (net : NetParts) (phase : ℕ) (servers : Servers CoreParts) : Type 0 where
  pub sound : IsSound net
  pub run : servers.run ≡ net
  pub legal : IsLegal net servers.journal
  pub in_hand : (moment_by net servers.journal).phase ≡ phase
  pub cores : AreServers net phase (moment_by net servers.journal).state servers.cores
  pub links : AreOnLinks net (moment_by net servers.journal).state servers.messages
