-- Defines which lists of clients their text tells apart.
use Rattle.std.specs.Prelude.{◌≡◌, ◌≢◌, ◌<◌, ◌^◌, ℕ, List, [], ◌∷◌, length, AllPairs}
use Rattle.base.specs.Sets.{Has}
use Rattle.filter_text.specs.Deliveries.{Delivery}
use Rattle.net_model.specs.Parts.{ClientParts}
use Rattle.net_model.specs.Sound.{IsAmong}

-- none of the bytes is this one
abbrev pub Lacks : ℕ → List ℕ → Type 0
Lacks byte bytes = Has byte bytes → ⊥

-- clients of different names, none of which has a space (32)
pub record ArePlainNames (clients : List ClientParts) : Type 0 where
  pub differ : AllPairs (λ one other. one.name ≢ other.name) clients
  pub words : (client : ClientParts) → Has client clients → Lacks 32 client.name

-- a delivery of a publication by one of so many clients, whose text has no newline (10)
pub record IsPlainDelivery (clients : ℕ) (delivery : Delivery) : Type 0 where
  pub publisher : IsAmong clients delivery.id.publisher
  pub ordinal : delivery.id.ordinal < 2 ^ 64
  pub line : Lacks 10 delivery.bytes

-- for each client the ordinals of refused publishes, and such deliveries
pub record ArePlainLists (clients : List ClientParts) (refused : List (List ℕ)) (received : List (List Delivery)) : Type 0 where
  pub all_refused : length refused ≡ length clients
  pub all_received : length received ≡ length clients
  pub ordinals : (list : List ℕ) → Has list refused → (ordinal : ℕ) → Has ordinal list → ordinal < 2 ^ 64
  pub deliveries : (list : List Delivery) → Has list received → (delivery : Delivery) → Has delivery list
      → IsPlainDelivery (length clients) delivery

-- what may stand behind the lists of a text: nothing, or bytes that begin with `t` (116), as a trace does
abbrev pub MayFollow : List ℕ → Type 0
MayFollow [] = Unit {0}
MayFollow (b ∷ bytes) = b ≡ 116
