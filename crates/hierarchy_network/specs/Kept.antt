-- What the code keeps of a network of a hierarchy: the cores of its servers with what they installed, and what is on its links.
use Rattle.std.specs.Prelude.{◌≡◌, ℕ, suc, List, length, slice_get, Some}
use Rattle.law_routing.specs.Routing.{empty_server}
use Rattle.law_phases.specs.Trees.{State}
use Rattle.net_model.specs.Real.{real}
use Rattle.law_hierarchy.specs.Step.{Hierarchy}
use Rattle.net_model.specs.Parts.{NetParts}
use Rattle.net_model.specs.Nets.{first_tree}
use Rattle.net_model.specs.Sound.{IsSound}
use Rattle.hierarchy_turns.specs.Network.{net_of, moment_by, IsLegal}
use Rattle.hierarchy_network.specs.Core.{HierarchyParts, RepresentsHierarchyServer}
use Rattle.sequential_network.specs.Acted.{Servers}
use Rattle.sequential_network.specs.Links.{AreOnLinks}

-- the state of a network of a hierarchy, whatever its tree
abbrev pub state_in : (net : NetParts) → Hierarchy real (net_of net) → State real
state_in net network = record { state = network.state; clock = network.clock; put = network.put; taken = network.taken }

-- the cores of all servers of a net, by rising number, each at its server's state and clock
pub record AreServers (net : NetParts) (network : Hierarchy real (net_of net)) (cores : List HierarchyParts) : Type 0 where
  pub all : length cores ≡ (first_tree net.trees).count
  pub nets : (place : ℕ) (parts : HierarchyParts) → slice_get cores place ≡ Some parts → parts.core.net ≡ net
  pub number : (place : ℕ) (parts : HierarchyParts) → slice_get cores place ≡ Some parts → parts.core.server ≡ suc place
  pub states : (place : ℕ) (parts : HierarchyParts) → slice_get cores place ≡ Some parts
      → RepresentsHierarchyServer (net_of net) parts (network.state (suc place))
  pub clocks : (place : ℕ) (parts : HierarchyParts) → slice_get cores place ≡ Some parts → parts.core.clock ≡ network.clock (suc place)

-- the core of a server before its first step
pub record IsFirst (net : NetParts) (server : ℕ) (parts : HierarchyParts) : Type 0 where
  pub net_is : parts.core.net ≡ net
  pub server_is : parts.core.server ≡ server
  pub clock : parts.core.clock ≡ 0
  pub state : RepresentsHierarchyServer (net_of net) parts (empty_server real (net_of net))

-- the cores of the first servers before their first steps
abbrev pub ArePlacesUpTo : NetParts → List HierarchyParts → Type 0
ArePlacesUpTo net cores = (place : ℕ) (parts : HierarchyParts) → slice_get cores place ≡ Some parts → IsFirst net (suc place) parts

-- WHAT A NETWORK KEEPS: its net is sound and its journal a legal run, at whose end the phase is the one in hand, and the cores and the links are those
-- of the state then
pub record IsNetwork (net : NetParts) (phase : ℕ) (servers : Servers HierarchyParts) : Type 0 where
  pub sound : IsSound net
  pub run : servers.run ≡ net
  pub legal : IsLegal net servers.journal
  pub in_hand : (moment_by net servers.journal).phase ≡ phase
  pub cores : AreServers net (moment_by net servers.journal).network servers.cores
  pub links : AreOnLinks net (state_in net (moment_by net servers.journal).network) servers.messages
