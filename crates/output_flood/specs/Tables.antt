-- Defines tables that have each client's filters at its place; no promise to a caller speaks of it.
use Rattle.std.specs.Prelude.{◌≡◌, ◌<◌, ◌↔◌, ◌⊎◌, ℕ, ◌+◌, Bool, true, false, ◌&&◌, not, nat_eq, List, [], ◌∷◌, Some, None, filter, length, slice_get}
use Rattle.std.specs.List.{list_any, range_with_len}
use Rattle.std.specs.List.Sorted.{IsStrictlyIncreasing}
use Rattle.base.specs.Sets.{Has}
use Rattle.filter_types.specs.Notice.{Attribute}
use Rattle.match_routes.specs.Installed.{Pair}
use Rattle.match_routes.specs.Routes.{IsRouteBy}
use Rattle.net_model.specs.Parts.{ClientParts}
use Rattle.filter_text.specs.Messages.{Lists}
use Rattle.output_flood.specs.Held.{Script, every_filters, some_filters}
use Rattle.output_flood.specs.Numbers.{Steps, AreNumbers, IsAt, IsSized, every_number, ever_number}
use Rattle.output_flood.specs.Publications.{is_met}
use Rattle.output_flood.specs.declared.filters.ClientFilters.{ClientFilters}
use Rattle.output_flood.specs.declared.publication.Publication.{Publication}
use Rattle.output_flood.specs.declared.tables.Tables.{Tables}
use Rattle.output_flood.specs.declared.tables.Room.{Room}
use Rattle.output_flood.specs.declared.meeting.Met.{Met}

-- the pairs have exactly these numbers at the place
abbrev pub ShowsRow : List Pair → ℕ → List ℕ → Type 0
ShowsRow pairs place members = (i : ℕ) → Has (place, i) pairs ↔ Has i members

-- they have these now, and the same as before at other places
pub record IsBrought (place : ℕ) (members : List ℕ) (old new : List Pair) : Type 0 where
  pub shows : ShowsRow new place members
  pub others : (x : Pair) → (x.0 ≡ place → ⊥) → Has x new ↔ Has x old

-- room for so many filters
pub record IsRoom (count : ℕ) (room : Room) : Type 0 where
  pub every : room.every.width ≡ count
  pub ever : room.ever.width ≡ count
  pub change : room.change.width ≡ count
  pub matched : room.matched.width ≡ count

-- a client with no filters
pub record IsNone (count : ℕ) (client : ClientFilters) : Type 0 where
  pub sized : IsSized count client
  pub done : client.done ≡ 0
  pub now : client.now.members ≡ []
  pub every : client.every.members ≡ []
  pub ever : client.ever.members ≡ []

-- the numbers of all scripts are those of filters
abbrev pub AreAllNumbers : ℕ → List Steps → Type 0
AreAllNumbers count scripts = (steps : Steps) → Has steps scripts → AreNumbers count steps

-- the tables have each client's numbers
pub record AreShown (every ever : List Pair) (clients : List ClientFilters) : Type 0 where
  pub at_every : (place : ℕ) (client : ClientFilters) → slice_get clients place ≡ Some client → ShowsRow every place client.every.members
  pub at_some : (place : ℕ) (client : ClientFilters) → slice_get clients place ≡ Some client → ShowsRow ever place client.ever.members

-- each client's rows are as wide as there are filters, and it is somewhere in its script
pub record AreGoing (known : Lists) (scripts : List Steps) (clients : List ClientFilters) : Type 0 where
  pub sized : (place : ℕ) (client : ClientFilters) → slice_get clients place ≡ Some client → IsSized (length known) client
  pub at : (place : ℕ) (client : ClientFilters) (steps : Steps) → slice_get clients place ≡ Some client → slice_get scripts place ≡ Some steps
      → IsAt known steps client

-- what the tables keep
pub record IsReady (known : Lists) (scripts : List Steps) (tables : Tables) : Type 0 where
  pub count : length tables.clients.items ≡ length scripts
  pub going : AreGoing known scripts tables.clients.items
  pub shown : AreShown tables.every.pairs tables.ever.pairs tables.clients.items
  pub every_width : tables.every.width ≡ length known
  pub ever_width : tables.ever.width ≡ length known
  pub every_places : tables.every.interfaces ≡ range_with_len 0 (length scripts)
  pub ever_places : tables.ever.interfaces ≡ range_with_len 0 (length scripts)

-- tables of so many clients without filters, before any phase
pub record AreNoTables (clients wide : ℕ) (tables : Tables) : Type 0 where
  pub phase : tables.phase ≡ None
  pub steady : tables.steady ≡ false
  pub count : length tables.clients.items ≡ clients
  pub none : (client : ClientFilters) → Has client tables.clients.items → IsNone wide client
  pub every_width : tables.every.width ≡ wide
  pub ever_width : tables.ever.width ≡ wide
  pub every_places : tables.every.interfaces ≡ range_with_len 0 clients
  pub ever_places : tables.ever.interfaces ≡ range_with_len 0 clients
  pub every : tables.every.pairs ≡ []
  pub ever : tables.ever.pairs ≡ []

-- a client has its numbers of a phase
pub record IsOfPhase (known : Lists) (phase : ℕ) (steps : Steps) (client : ClientFilters) : Type 0 where
  pub every : client.every.members ≡ every_number known phase steps
  pub ever : client.ever.members ≡ ever_number known phase steps

-- so do those before a place
abbrev pub AllUpTo : Lists → ℕ → ℕ → List Steps → List ClientFilters → Type 0
AllUpTo known count phase scripts clients = (place : ℕ) (steps : Steps) (client : ClientFilters)
    → place < count → slice_get scripts place ≡ Some steps → slice_get clients place ≡ Some client → IsOfPhase known phase steps client

-- and all clients
abbrev pub AreAll : Lists → ℕ → List Steps → List ClientFilters → Type 0
AreAll known phase scripts clients =
    (place : ℕ) (steps : Steps) (client : ClientFilters) → slice_get scripts place ≡ Some steps → slice_get clients place ≡ Some client
    → IsOfPhase known phase steps client

-- a client has the same numbers at some moment of a phase as at every moment of it
abbrev pub IsSteady : ClientFilters → Type 0
IsSteady client = (i : ℕ) → Has i client.every.members ↔ Has i client.ever.members

-- so do those before a place
abbrev pub SteadyUpTo : ℕ → List ClientFilters → Type 0
SteadyUpTo count clients = (place : ℕ) (client : ClientFilters) → place < count → slice_get clients place ≡ Some client → IsSteady client

-- and all clients
abbrev pub AreSteady : List ClientFilters → Type 0
AreSteady clients = (place : ℕ) (client : ClientFilters) → slice_get clients place ≡ Some client → IsSteady client

-- the tables have numbers of all clients, and once there is a phase those of the phase
pub record AreTables (known : Lists) (scripts : List Steps) (tables : Tables) : Type 0 where
  pub ready : IsReady known scripts tables
  pub steady : tables.steady ≡ true → AreSteady tables.clients.items
  pub current : (phase : ℕ) → tables.phase ≡ Some phase → AreAll known phase scripts tables.clients.items

-- the place is among these
abbrev pub is_found : ℕ → List ℕ → Bool
is_found place places = list_any (λ y. nat_eq y place) places

-- places besides those of every moment: none where all clients are steady, and else those of some moment that are not among them
abbrev pub AreOthers : Tables → List ℕ → List ℕ → List ℕ → Type 0
AreOthers tables numbers every others =
    ((tables.steady ≡ true) × (others ≡ []))
    ⊎ ((ever : List ℕ) × IsRouteBy numbers tables.ever.pairs ever × (others ≡ filter (λ x. not (is_found x every)) ever))

-- the places are exactly those of clients of whose lists some filter matches the notice
abbrev pub FindsClients : (Script → Lists) → List ClientParts → List Attribute → List ℕ → Type 0
FindsClients lists clients notice places =
    (place : ℕ) (client : ClientParts) → slice_get clients place ≡ Some client → is_found place places ≡ is_met (lists client.script) notice

-- the places rise
pub record ArePlacesRising (met : Met) : Type 0 where
  pub every : IsStrictlyIncreasing met.every
  pub others : IsStrictlyIncreasing met.others.items

-- the clients that the publication meets
pub record Meets (clients : List ClientParts) (p : Publication) (met : Met) : Type 0 where
  pub rising : ArePlacesRising met
  pub every : FindsClients (every_filters p.phase) clients p.notice met.every
  pub others : (place : ℕ) (client : ClientParts) → slice_get clients place ≡ Some client
      → is_found place met.others.items ≡ not (is_found place met.every) && is_met (some_filters p.phase client.script) p.notice

-- those that the publication at a place meets
abbrev pub MeetsAt : List ClientParts → List Publication → List Met → ℕ → Type 0
MeetsAt clients publications mets k =
    (p : Publication) (met : Met) → slice_get publications k ≡ Some p → slice_get mets k ≡ Some met → Meets clients p met

-- those of each publication
pub record AllMeet (clients : List ClientParts) (publications : List Publication) (mets : List Met) : Type 0 where
  pub count : length mets ≡ length publications
  pub each : (k : ℕ) → MeetsAt clients publications mets k

-- publications by their phases and their places, numbered on
abbrev pub ordered_from : ℕ → List Publication → List (ℕ × ℕ)
ordered_from k [] = []
ordered_from k (p ∷ ps) = (p.phase, k) ∷ ordered_from (k + 1) ps
