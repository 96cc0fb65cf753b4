-- What flooding owes: the allowed publications of each client by id, and which of them are owed.
use Rattle.std.specs.Prelude.{◌≡◌, ◌↔◌, ℕ, suc, ◌||◌, ◌&&◌, ◌==◌, nat_lt, Bool, true, List, length, slice_get, Some}
use Rattle.base.specs.Sets.{Has, IsRising}
use Rattle.filter_types.specs.Notice.{Attribute}
use Rattle.law_routing.specs.Net.{Net}
use Rattle.law_routing.specs.Owed.{IsPublication, IsOwed, IsAllowed}
use Rattle.law_phases.specs.Trees.{net_at}
use Rattle.net_model.specs.Real.{real}
use Rattle.filter_text.specs.declared.id.Id.{Id}
use Rattle.net_model.specs.Parts.{NetParts}
use Rattle.net_model.specs.Nets.{phased_net, script_of}
use Rattle.net_model.specs.Lists.{refused_ordinals}
use Rattle.output_flood.specs.declared.owed.OwedRow.{OwedRow}

-- the net of a phase
abbrev pub net_in : NetParts → ℕ → Net real
net_in net phase = net_at real (phased_net net) phase

-- ids by publisher, then by ordinal
abbrev pub id_before : Id → Id → Bool
id_before a b = nat_lt a.publisher b.publisher || ((a.publisher == b.publisher) && nat_lt a.ordinal b.ordinal)

-- the id of a row before that of another
abbrev pub row_before : OwedRow → OwedRow → Bool
row_before a b = id_before a.id b.id

-- the row of a publication
abbrev pub row_of : ℕ → ℕ → Bool → OwedRow
row_of publisher ordinal must = record { id = record { publisher = publisher; ordinal = ordinal }; must = must }

-- a row is of an accepted publication that is allowed to the client, and tells whether it is owed to it
pub record IsOwedRow (net : NetParts) (client : ℕ) (row : OwedRow) : Type 0 where
  pub phase : ℕ
  pub notice : List Attribute
  pub published : IsPublication real (net_in net phase) row.id.publisher row.id.ordinal phase notice
  pub allowed : IsAllowed real (net_in net phase) phase notice client
  pub must : (row.must ≡ true) ↔ IsOwed real (net_in net phase) row.id.publisher phase notice client

-- there is a row of a publication
abbrev pub HasRow : ℕ → ℕ → List OwedRow → Type 0
HasRow publisher ordinal rows = (must : Bool) × Has (row_of publisher ordinal must) rows

-- a client's rows: exactly the publications that are allowed to it, by id
pub record AreRows (net : NetParts) (client : ℕ) (rows : List OwedRow) : Type 0 where
  pub each : (row : OwedRow) → Has row rows → IsOwedRow net client row
  pub whole : (publisher ordinal phase : ℕ) (notice : List Attribute)
      → IsPublication real (net_in net phase) publisher ordinal phase notice → IsAllowed real (net_in net phase) phase notice client
      → HasRow publisher ordinal rows
  pub rising : IsRising row_before rows

-- the ordinals of all refused publishes of a client
abbrev pub all_refused : NetParts → ℕ → List ℕ
all_refused net client = refused_ordinals net client (length (script_of net client))

-- WHAT FLOODING OWES: for each client its rows, and the ordinals of its refused publishes
pub record IsFlooding (net : NetParts) (rows : List (List OwedRow)) (refused : List (List ℕ)) : Type 0 where
  pub all_rows : length rows ≡ length net.clients
  pub all_ordinals : length refused ≡ length net.clients
  pub of_client : (place : ℕ) (list : List OwedRow) → slice_get rows place ≡ Some list → AreRows net (suc place) list
  pub ordinals : (place : ℕ) (list : List ℕ) → slice_get refused place ≡ Some list → list ≡ all_refused net (suc place)
