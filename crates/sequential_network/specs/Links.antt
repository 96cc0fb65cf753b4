-- Defines the messages on the links between servers: of each link a queue, and whether there is room for one more.
use Rattle.std.specs.Prelude.{◌≡◌, ℕ, ◌+◌, ◌*◌, ◌≤◌, nat_le, ◌&&◌, ◌==◌, Bool, false, cond, List, [], length, map, filter, drop, slice_index_or}
use Rattle.law_machine.specs.Machine.{Stamped}
use Rattle.law_routing.specs.Server.{Message}
use Rattle.law_phases.specs.Trees.{State}
use Rattle.net_model.specs.Real.{real}
use Rattle.net_model.specs.Parts.{NetParts}
use Rattle.server_message.specs.Parts.{MessageParts, message_parts, SendingParts}

-- a message that waits to be received, under the stamp of the step that sent it
pub record StampedMessageParts : Type 0 where
  pub stamp : ℕ
  pub sent : MessageParts

abbrev pub stamped_message_parts : ℕ → MessageParts → StampedMessageParts
stamped_message_parts stamp sent = record { stamp = stamp; sent = sent }

-- a queue: what was put and not received, in order, and whether there is room for one more
pub record QueueParts : Type 0 where
  pub messages : List StampedMessageParts
  pub room : Bool

abbrev pub queue_parts : List StampedMessageParts → Bool → QueueParts
queue_parts messages room = record { messages = messages; room = room }

-- the queue of a link stands at this place of all queues; numbers of servers are at most 64
abbrev pub link_place : ℕ → ℕ → ℕ
link_place from to = from * 65 + to

-- the queue of a link
abbrev pub queue_at : List QueueParts → ℕ → ℕ → QueueParts
queue_at queues from to = slice_index_or queues (link_place from to) (queue_parts [] false)

-- what is on a link: nothing where its ends are no servers
abbrev pub messages_at : List QueueParts → ℕ → ℕ → List StampedMessageParts
messages_at queues from to = cond (nat_le from 64 && nat_le to 64) (queue_at queues from to).messages []

-- whether there is room for one more message on a link
abbrev pub has_room : List QueueParts → ℕ → ℕ → Bool
has_room queues from to = cond (nat_le from 64 && nat_le to 64) (queue_at queues from to).room false

-- on each link is what was there
abbrev pub AreSame : List QueueParts → List QueueParts → Type 0
AreSame old new = (from to : ℕ) → messages_at new from to ≡ messages_at old from to

-- a message of a net's run, as it waits on a link
abbrev pub waiting_in : NetParts → Stamped (Message real) → StampedMessageParts
waiting_in net stamped = stamped_message_parts stamped.stamp (message_parts net stamped.message)

-- a message that is sent, under a stamp
abbrev pub waiting_as : ℕ → SendingParts → StampedMessageParts
waiting_as stamp sending = stamped_message_parts stamp sending.sent

-- of what is sent, the messages for a neighbour
abbrev pub messages_to : ℕ → List SendingParts → ℕ → List StampedMessageParts
messages_to stamp sent to = map (waiting_as stamp) (filter (λ s. s.to == to) sent)

-- on each link is what was put on it and not received
pub record AreOnLinks (net : NetParts) (state : State real) (messages : ℕ → ℕ → List StampedMessageParts) : Type 0 where
  pub messages_are : (from to : ℕ) → messages from to ≡ map (waiting_in net) (drop (state.taken from to) (state.put from to))
  pub within : (from to : ℕ) → state.taken from to ≤ length (state.put from to)
