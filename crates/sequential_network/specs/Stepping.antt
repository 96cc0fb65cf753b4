-- What a server at its place is to a network of its kind, and what the network counts on at its steps.
use Rattle.std.specs.Prelude.{ℕ, ◌<◌, ◌≤◌, ◌^◌, max, List, [], ◌∷◌, length, map}
use Rattle.base.specs.Sets.{Has}
use Rattle.base.specs.Numbers.{IsDistinct}
use Rattle.law_machine.specs.Machine.{Input}
use Rattle.law_routing.specs.Net.{Net, NetLaws}
use Rattle.law_routing.specs.Server.{Message, ServerState}
use Rattle.law_routing.specs.Step.{Task}
use Rattle.net_model.specs.Real.{real}
use Rattle.server_message.specs.Parts.{SendingParts}
use Rattle.server_core.specs.Core.{CoreParts, RepresentsServer}
use Rattle.server_core.specs.Step.{MakesStep}

-- WHAT A SERVER AT ITS PLACE IS: its core, the state that it represents in a net, and its steps, by an input and the stamp that it takes
pub record Stepping (P : Type 0) : Type 1 where
  pub core : P → CoreParts
  pub Stands : Net real → P → ServerState real → Type 0
  pub Steps : Input Task (Message real) → ℕ → P → P → ℕ → List SendingParts → Type 0

-- it represents some state of its server in some net
abbrev pub IsSome : {P : Type 0} → Stepping P → P → Type 0
IsSome stepping place = (net : Net real) × NetLaws real net × (state : ServerState real) × stepping.Stands net place state

-- what is sent under a stamp: at most one message on each of these links
pub record GoesOn (links : List ℕ) (stamp : ℕ) (sent : List SendingParts) : Type 0 where
  pub low : stamp < 2 ^ 62
  pub to : (s : SendingParts) → Has s sent → Has s.to links
  pub small : (s : SendingParts) → Has s sent → s.to ≤ 64
  pub apart : IsDistinct (map (λ s. s.to) sent)
  pub few : length sent ≤ length links

-- the servers of a network of peers
abbrev pub peers : Stepping CoreParts
peers = record { core = λ core. core; Stands = RepresentsServer; Steps = MakesStep }

-- the greatest clock of these servers
abbrev pub greatest_clock : {P : Type 0} → Stepping P → List P → ℕ
greatest_clock kind [] = 0
greatest_clock kind (place ∷ places) = max (kind.core place).clock (greatest_clock kind places)
