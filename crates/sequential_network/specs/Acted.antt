-- What a step of one server makes of the servers, the links and the journal, whatever their kind.
use Rattle.std.specs.Prelude.{◌≡◌, ℕ, ◌==◌, ◌&&◌, cond, List, [], ◌∷◌, ◌++◌, map, drop, slice_get, slice_set, Some}
use Rattle.law_machine.specs.Machine.{Input, Does, Receives, Act, Did, Received, Stamped}
use Rattle.law_routing.specs.Server.{Message}
use Rattle.law_routing.specs.Step.{Task}
use Rattle.net_model.specs.Real.{real}
use Rattle.server_message.specs.Parts.{SendingParts}
use Rattle.net_model.specs.declared.turn.Act.{Act as EntryAct}
use Rattle.net_model.specs.Parts.{NetParts, EntryParts, entry_parts}
use Rattle.sequential_network.specs.Links.{StampedMessageParts, messages_to}
use Rattle.sequential_network.specs.Stepping.{Stepping}

-- the net whose run it is, the servers at their places, what is on each link, and the journal
pub record Servers (P : Type 0) : Type 0 where
  pub run : NetParts
  pub cores : List P
  pub messages : ℕ → ℕ → List StampedMessageParts
  pub journal : List EntryParts

-- an input whose message has its stamp
abbrev pub StampedInput : Type 0
StampedInput = Input Task (Stamped (Message real))

-- the input without the stamp, the stamp that it takes, and how a journal records it
abbrev pub input_of : StampedInput → Input Task (Message real)
input_of (Does task) = Does task
input_of (Receives from m) = Receives from m.message

abbrev pub stamp_of : StampedInput → ℕ
stamp_of (Does task) = 0
stamp_of (Receives from m) = m.stamp

abbrev pub recorded_as : StampedInput → Act Task
recorded_as (Does task) = Did task
recorded_as (Receives from m) = Received from

-- what an input of a server leaves on the links: a reception takes the first message of its link
abbrev pub messages_left : StampedInput → ℕ → (ℕ → ℕ → List StampedMessageParts) → ℕ → ℕ → List StampedMessageParts
messages_left (Does task) server messages a b = messages a b
messages_left (Receives from m) server messages a b = cond ((a == from) && (b == server)) (drop 1 (messages a b)) (messages a b)

-- the server at a place made a step: it went on, what it sends is on its links, and the step joined the journal
pub record IsActed {P : Type 0} (kind : Stepping P) (place : ℕ) (input : StampedInput) (act : EntryAct) (old new : Servers P) : Type 0 where
  pub core : P
  pub next : P
  pub stamp : ℕ
  pub sent : List SendingParts
  pub here : slice_get old.cores place ≡ Some core
  pub same_run : new.run ≡ old.run
  pub step : kind.Steps (input_of input) (stamp_of input) core next stamp sent
  pub cores : new.cores ≡ slice_set old.cores place next
  pub journal : new.journal ≡ old.journal ++ entry_parts stamp (kind.core core).server act (map (λ s. s.to) sent) ∷ []
  pub messages : (a b : ℕ) → new.messages a b
      ≡ messages_left input (kind.core core).server old.messages a b ++ cond (a == (kind.core core).server) (messages_to stamp sent b) []
