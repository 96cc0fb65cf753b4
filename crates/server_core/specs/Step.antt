-- A call of a core is the step of one server.
use Rattle.std.specs.Prelude.{◌≡◌, ℕ, suc, max, ◌^◌, ◌-◌, List, Some}
use Rattle.law_machine.specs.Machine.{Input, Outcome}
use Rattle.law_routing.specs.Net.{Net}
use Rattle.law_routing.specs.Server.{Message, ServerState}
use Rattle.law_routing.specs.Step.{Task, local_step}
use Rattle.net_model.specs.Real.{real}
use Rattle.server_message.specs.Parts.{SendingParts, sent_by}
use Rattle.server_core.specs.Core.{CoreParts, RepresentsServer}

-- in a net, for a state that the old core represents: the step of the server by this input leads to a state that the new core represents, and
-- what is sent are the step's messages by rising neighbour
pub record IsServerStep (net : Net real) (state : ServerState real) (input : Input Task (Message real)) (old new : CoreParts)
    (sent : List SendingParts) : Type 0 where
  pub outcome : Outcome (ServerState real) (Message real)
  pub step : local_step real net old.server state input ≡ Some outcome
  pub state_after : RepresentsServer net new outcome.state
  pub sent_are : sent ≡ sent_by old.net outcome.outs old.control.links

-- the stamp of a step: 1 more than the clock and the received stamp, which is 0 where nothing is received
abbrev pub stamp_after : ℕ → ℕ → ℕ
stamp_after clock taken = suc (max clock taken)

-- the greatest stamp
abbrev pub last_stamp : ℕ
last_stamp = 2 ^ 62 - 1

-- THE CONTRACT OF A STEP: in each net and from each state that the core represents it is the server's step; the clock is the step's stamp, and
-- net, server and links stay
pub record MakesStep (input : Input Task (Message real)) (taken : ℕ) (old new : CoreParts) (stamp : ℕ) (sent : List SendingParts) : Type 0 where
  pub step : (net : Net real) (state : ServerState real) → RepresentsServer net old state → IsServerStep net state input old new sent
  pub stamp_is : stamp ≡ stamp_after old.clock taken
  pub clock_is : new.clock ≡ stamp
  pub same_net : new.net ≡ old.net
  pub same_server : new.server ≡ old.server
  pub same_links : new.control.links ≡ old.control.links
