-- A call of a core is the step of one server of a hierarchy.
use Rattle.std.specs.Prelude.{◌≡◌, ℕ, List, Some}
use Rattle.law_machine.specs.Machine.{Input, Outcome}
use Rattle.law_routing.specs.Net.{Net}
use Rattle.law_routing.specs.Server.{Message, ServerState}
use Rattle.law_routing.specs.Step.{Task}
use Rattle.net_model.specs.Real.{real}
use Rattle.law_hierarchy.specs.Step.{local_step}
use Rattle.server_message.specs.Parts.{SendingParts, sent_by}
use Rattle.server_core.specs.Step.{stamp_after}
use Rattle.hierarchy_network.specs.Core.{HierarchyParts, RepresentsHierarchyServer}

-- in a net, for a state that the old core represents: the step of the server by this input leads to a state that the new core represents, and
-- what is sent are the step's messages by rising neighbour
pub record IsHierarchyStep (net : Net real) (state : ServerState real) (input : Input Task (Message real)) (old new : HierarchyParts)
    (sent : List SendingParts) : Type 0 where
  pub outcome : Outcome (ServerState real) (Message real)
  pub step : local_step real net old.core.server state input ≡ Some outcome
  pub state_after : RepresentsHierarchyServer net new outcome.state
  pub sent_are : sent ≡ sent_by old.core.net outcome.outs old.core.control.links

-- THE CONTRACT OF A STEP: in each net and from each state that the core represents it is the server's step; the clock is the step's stamp, and
-- net, server, links and master stay
pub record MakesHierarchyStep (input : Input Task (Message real)) (taken : ℕ) (old new : HierarchyParts) (stamp : ℕ) (sent : List SendingParts) : Type 0 where
  pub step : (net : Net real) (state : ServerState real) → RepresentsHierarchyServer net old state → IsHierarchyStep net state input old new sent
  pub stamp_is : stamp ≡ stamp_after old.core.clock taken
  pub clock_is : new.core.clock ≡ stamp
  pub same_net : new.core.net ≡ old.core.net
  pub same_server : new.core.server ≡ old.core.server
  pub same_links : new.core.control.links ≡ old.core.control.links
  pub same_master : new.master ≡ old.master
