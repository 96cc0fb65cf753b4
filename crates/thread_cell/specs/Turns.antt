-- Defines what a turn of a cell takes in and leaves.
use Rattle.std.specs.Prelude.{◌≡◌, ℕ, max, List, [], ◌∷◌, ◌++◌, map, Some, slice_get}
use Rattle.base.specs.Sets.{Has}
use Rattle.law_machine.specs.Machine.{Does, Receives}
use Rattle.law_routing.specs.Step.{NextCommand, TableUpdate}
use Rattle.server_message.specs.declared.stamped.StampedLoad.{StampedLoad}
use Rattle.server_message.specs.Parts.{SendingParts}
use Rattle.filter_text.specs.declared.command.Command.{Command}
use Rattle.filter_text.specs.MessageText.{Each}
use Rattle.net_model.specs.declared.turn.Act.{Act as EntryAct}
use Rattle.net_model.specs.declared.turn.Act.TheVariants as acts
use Rattle.net_model.specs.Parts.{EntryParts, entry_parts}
use Rattle.net_model.specs.Meaning.{act_of}
use Rattle.server_spec.specs.Session.{SessionParts}
use Rattle.server_core.specs.Core.{CoreParts}
use Rattle.server_core.specs.Step.{MakesStep, last_stamp}
use Rattle.thread_versions.specs.Ends.{installed, IsSamePublisher}
use Rattle.thread_cell.specs.Acted.{Represented, StampedInput, input_of, stamp_of, recorded_as}
use Rattle.thread_cell.specs.declared.held.ServerInHand.{ServerInHand}
use Rattle.thread_cell.specs.declared.link.Link.{Link}
use Rattle.thread_cell.specs.declared.turned.Turned.{Turned}
use Rattle.thread_cell.specs.declared.turned.Turned.TheVariants.{Made, Stale, Idle}
use Rattle.thread_cell.specs.Links.{Both, IsUnmoved, IsFlushed}
use Rattle.thread_cell.specs.LaneReceiving.{HasMissed, HasSeen, ComesNext}
use Rattle.thread_cell.specs.LaneMessages.{IsMoved, only_from}

-- what an input takes from each neighbour
abbrev pub received_by_input : StampedInput → ℕ → List Represented
received_by_input (Does task) neighbour = []
received_by_input (Receives from m) neighbour = only_from from m neighbour

-- the next command of a client, if there is one, is of this phase
abbrev pub HasCommand : CoreParts → ℕ → ℕ → Type 0
HasCommand core client phase = (s : SessionParts) × Has s core.clients × (s.client ≡ client)
    × ((c : ℕ × Command) × (slice_get s.script s.taken ≡ Some c) × (c.0 ≡ phase))

-- an input that is a command is of this phase
abbrev pub IsOfPhase : ℕ → CoreParts → StampedInput → Type 0
IsOfPhase phase core (Does (NextCommand client)) = HasCommand core client phase
IsOfPhase phase core (Does TableUpdate) = Unit {0}
IsOfPhase phase core (Receives from m) = Unit {0}

-- A STEP WAS MADE: the core made it, what it sends is on the lanes with its stamp, what it received is taken from its lane, and the journal has just
-- its entry more; each putting end is as `flush` leaves it
pub record IsCellTurn (phase : ℕ) (input : StampedInput) (act : EntryAct) (old new : ServerInHand) (before after : List EntryParts) : Type 0 where
  pub told : recorded_as input ≡ act_of act
  pub due : IsOfPhase phase old.core input
  pub stamp : ℕ
  pub sent : List SendingParts
  pub step : MakesStep (input_of input) (stamp_of input) old.core new.core stamp sent
  pub entry : after ≡ before ++ entry_parts stamp old.core.server act (map (λ s. s.to) sent) ∷ []
  pub links : Both (IsMoved old.core.net stamp sent (received_by_input input)) old.links.items new.links.items
  pub flushed : Each IsFlushed new.links.items
  pub publisher : IsSamePublisher old.publisher new.publisher

-- nothing was done: at most some pending changes were handed to the publisher, which installed none
pub record IsStill (old new : ServerInHand) (before after : List EntryParts) : Type 0 where
  pub core : new.core ≡ old.core
  pub links : Both IsUnmoved old.links.items new.links.items
  pub journal : after ≡ before
  pub publisher : IsSamePublisher old.publisher new.publisher
  pub installed : installed new.publisher ≡ installed old.publisher

-- this message was received from the neighbour at a place, and the misses of its lane stay
pub record IsReceptionFrom (phase place : ℕ) (message : Represented) (old new : ServerInHand) (before after : List EntryParts) : Type 0 where
  pub link : Link
  pub there : slice_get old.links.items place ≡ Some link
  pub turn : IsCellTurn phase (Receives link.neighbour message) (acts.Receive link.neighbour) old new before after
  pub seen : HasSeen place old.links.items new.links.items

-- a message was received, or all that the neighbour put is taken
abbrev pub IsReception : ℕ → ℕ → ServerInHand → ServerInHand → List EntryParts → List EntryParts → Turned → Type 0
IsReception phase place old new before after Made = (m : Represented) × IsReceptionFrom phase place m old new before after
IsReception phase place old new before after Stale = ⊥
IsReception phase place old new before after Idle = IsStill old new before after × HasMissed place old.links.items new.links.items

-- the next stamp would be 2^62, by the clock, or by what comes next from the neighbour at a place
pub record IsWornAt (place clock stamp : ℕ) (links : List Link) : Type 0 where
  pub link : Link
  pub there : slice_get links place ≡ Some link
  pub item : StampedLoad
  pub next : ComesNext item link
  pub last : max clock item.stamp ≡ last_stamp
  pub told : stamp ≡ last_stamp
