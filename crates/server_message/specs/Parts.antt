-- What contracts see of messages and of their parts.
use Rattle.std.specs.Prelude.{ℕ, ◌<◌, nat_lt, List, map}
use Rattle.std.specs.List.{flat_map}
use Rattle.base.specs.Sets.{Has, IsRising}
use Rattle.law_routing.specs.Server.{Message}
use Rattle.net_model.specs.Real.{real}
use Rattle.net_model.specs.Parts.{NetParts}

-- a change by numbers: what is withdrawn and what is added
pub record ChangeParts : Type 0 where
  pub withdrawn : List ℕ
  pub added : List ℕ

-- a message, in the net whose run it is in
pub record MessageParts : Type 0 where
  pub net : NetParts
  pub message : Message real

abbrev pub message_parts : NetParts → Message real → MessageParts
message_parts net message = record { net = net; message = message }

-- a change has rising numbers below a bound, and withdraws nothing that it adds
pub record IsChange (bound : ℕ) (change : ChangeParts) : Type 0 where
  pub withdrawn_rising : IsRising nat_lt change.withdrawn
  pub added_rising : IsRising nat_lt change.added
  pub withdrawn_known : (i : ℕ) → Has i change.withdrawn → i < bound
  pub added_known : (i : ℕ) → Has i change.added → i < bound
  pub apart : (i : ℕ) → Has i change.withdrawn → Has i change.added → ⊥

-- a message on its way to a neighbour
pub record SendingParts : Type 0 where
  pub to : ℕ
  pub sent : MessageParts

abbrev pub sending_parts : ℕ → MessageParts → SendingParts
sending_parts to sent = record { to = to; sent = sent }

-- a message on its way to a link
abbrev pub onto : NetParts → ℕ → Message real → SendingParts
onto net link message = sending_parts link (message_parts net message)

-- THE MESSAGES to each of these links, in turn
abbrev pub sent_by : NetParts → (ℕ → List (Message real)) → List ℕ → List SendingParts
sent_by net messages links = flat_map (λ link. map (onto net link) (messages link)) links
