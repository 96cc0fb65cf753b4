-- How the code makes the messages of a change; no promise to a caller speaks of it.
use Rattle.std.specs.Prelude.{◌≡◌, ◌<◌, ℕ, nat_lt, Bool, true, false, List, [], ◌∷◌, slice_get, Option, Some, None}
use Rattle.base.specs.Sets.{Has, IsRising}
use Rattle.law_routing.specs.Server.{Message}
use Rattle.net_model.specs.Real.{real}
use Rattle.net_model.specs.Parts.{NetParts}
use Rattle.server_message.specs.declared.load.Load.{Load}
use Rattle.server_message.specs.Message.{IsLoad, represented}
use Rattle.server_stock.specs.Sides.{Announced}
use Rattle.server_message.specs.Parts.{ChangeParts}

-- a change has the numbers that were announced, which rise and are below a bound, and some are there
pub record IsChangeBy (bound : ℕ) (announced : Announced) (change : ChangeParts) : Type 0 where
  pub withdrawn : change.withdrawn ≡ announced.withdrawn
  pub added : change.added ≡ announced.added
  pub some : (announced.withdrawn ≡ []) × (announced.added ≡ []) → ⊥
  pub withdrawn_rising : IsRising nat_lt announced.withdrawn
  pub added_rising : IsRising nat_lt announced.added
  pub withdrawn_known : (i : ℕ) → Has i announced.withdrawn → i < bound
  pub added_known : (i : ℕ) → Has i announced.added → i < bound

-- and there is none where nothing was announced
abbrev pub IsChangeOf : ℕ → Announced → Option ChangeParts → Type 0
IsChangeOf bound announced None = (announced.withdrawn ≡ []) × (announced.added ≡ [])
IsChangeOf bound announced (Some change) = IsChangeBy bound announced change

-- what is carried, if something is, stands in a net for these messages
abbrev pub IsCarried : NetParts → List (Message real) → Option Load → Type 0
IsCarried net messages None = messages ≡ []
IsCarried net messages (Some load) = IsLoad net load × (messages ≡ represented net load ∷ [])

-- an item with this number is held
pub record IsHeldAt {T : Type 0} (items held : List T) (k : ℕ) : Type 0 where
  pub item : T
  pub at : slice_get items k ≡ Some item
  pub is_held : Has item held

-- an item with this number is held, or none is
abbrev pub IsHeldAs : {T : Type 0} → Bool → List T → List T → ℕ → Type 0
IsHeldAs true items held k = IsHeldAt items held k
IsHeldAs false items held k = IsHeldAt items held k → ⊥
