-- Defines messages put on the links of a server one after the other.
use Rattle.std.specs.Prelude.{◌≡◌, ℕ, true, List, ◌++◌, length, drop}
use Rattle.base.specs.Sets.{Has}
use Rattle.server_message.specs.Parts.{SendingParts}
use Rattle.sequential_network.specs.Links.{QueueParts, messages_at, messages_to, has_room}

-- of all that is sent so much is put, and there is room for the rest
pub record ArePut (all : List SendingParts) (server stamp : ℕ) (old new : List QueueParts) (put : List SendingParts) : Type 0 where
  pub here : (b : ℕ) → messages_at new server b ≡ messages_at old server b ++ messages_to stamp put b
  pub others : (a b : ℕ) → (a ≡ server → ⊥) → messages_at new a b ≡ messages_at old a b
  pub room : (s : SendingParts) → Has s (drop (length put) all) → has_room new server s.to ≡ true
