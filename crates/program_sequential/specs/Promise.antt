-- What the clients are promised: by the net of a document and the printed text alone.
use Rattle.std.specs.Prelude.{◌≡◌, ℕ, suc, ◌≤◌, ◌==◌, ◌&&◌, Bool, true, cond, List, [], ◌∷◌, ◌++◌, map, slice_get, Some}
use Rattle.std.specs.List.{flat_map}
use Rattle.base.specs.Sets.{Has}
use Rattle.filter_types.specs.Notice.{IsNotice}
use Rattle.law_routing.specs.Server.{Publication}
use Rattle.law_routing.specs.Order.{IsStrictlyRising}
use Rattle.law_phases.specs.Owing.{IsPublishedIn, IsOwedByScripts, IsDueByScripts, IsAllowedByScripts}
use Rattle.law_phases.specs.Sequence.{StandsBefore}
use Rattle.net_model.specs.Real.{real}
use Rattle.filter_text.specs.NoticeText.{IsNoticeText}
use Rattle.filter_text.specs.declared.command.Command.{Command}
use Rattle.filter_text.specs.declared.command.Command.TheVariants as commands
use Rattle.filter_text.specs.Deliveries.{Delivery}
use Rattle.filter_text.specs.declared.id.Id.{Id}
use Rattle.net_model.specs.Parts.{ClientParts, NetParts}
use Rattle.net_model.specs.Nets.{phased_net, of_clients}
use Rattle.output_flood.specs.declared.owed.OwedRow.{OwedRow}
use Rattle.output_flood.specs.Flooding.{all_refused}
use Rattle.output_report.specs.Published.{texts_in}
use Rattle.output_report.specs.Flood.{row_line}
use Rattle.output_report.specs.Deliveries.{by_id, delivery_line, deliveries_text}
use Rattle.output_report.specs.Drained.{AreOwed, AllOwed}
use Rattle.program_sequential.specs.declared.words.Shown.{Shown}
use Rattle.program_sequential.specs.Runs.{IsClient}
use Rattle.program_sequential.specs.Printed.{IsFloodOf}

-- of each client, by its number, the ordinals of its refused publishes, and what was delivered to it, in order
pub record ClientLists : Type 0 where
  pub refused : ℕ → List ℕ
  pub received : ℕ → List Delivery

-- their text
abbrev pub lists_text : NetParts → ClientLists → Bool → List ℕ
lists_text net lists sorted = deliveries_text net (of_clients net lists.refused) (of_clients net lists.received) sorted

-- the id of a publication
abbrev pub id_of : Publication real → Id
id_of publication = record { publisher = publication.publisher; ordinal = publication.ordinal }

abbrev pub is_id : Id → Id → Bool
is_id a b = (a.publisher == b.publisher) && (a.ordinal == b.ordinal)

-- how often deliveries have an id
abbrev pub times : Id → List Delivery → ℕ
times id [] = 0
times id (d ∷ deliveries) = cond (is_id id d.id) (suc (times id deliveries)) (times id deliveries)

-- the ordinals of a publisher's publications among deliveries, in their order
abbrev pub ordinals_in : ℕ → List Delivery → List ℕ
ordinals_in publisher [] = []
ordinals_in publisher (d ∷ deliveries) =
    cond (publisher == d.id.publisher) (d.id.ordinal ∷ ordinals_in publisher deliveries) (ordinals_in publisher deliveries)

-- a delivery to a client: a publication that flooding allows to it, with the one text of the notice that was published
pub record IsAllowedDelivery (net : NetParts) (client : ℕ) (d : Delivery) : Type 0 where
  pub publication : Publication real
  pub id : d.id ≡ id_of publication
  pub allowed : IsAllowedByScripts real (phased_net net) publication client
  pub text : IsNoticeText d.bytes publication.notice

-- each publication that flooding owes to a client was delivered to it exactly once
abbrev pub GivesOwedOnce : NetParts → ClientLists → Type 0
GivesOwedOnce net lists = (client : ℕ) (publication : Publication real) → IsOwedByScripts real (phased_net net) publication client
    → times (id_of publication) (lists.received client) ≡ 1

-- each publication that is due to a client, which asks less than owed, was delivered to it exactly once
abbrev pub GivesDueOnce : NetParts → ClientLists → Type 0
GivesDueOnce net lists = (publication : Publication real) (client : ℕ) → IsDueByScripts real (phased_net net) publication client
    → times (id_of publication) (lists.received client) ≡ 1

-- nothing was delivered that flooding does not allow, and each text is that of the notice published
abbrev pub GivesAllowed : NetParts → ClientLists → Type 0
GivesAllowed net lists = (client : ℕ) (d : Delivery) → IsClient net client → Has d (lists.received client) → IsAllowedDelivery net client d

-- nothing was delivered twice
abbrev pub GivesOnce : ClientLists → Type 0
GivesOnce lists = (client : ℕ) (id : Id) → times id (lists.received client) ≤ 1

-- the deliveries of one publisher stand in the order of its ordinals
abbrev pub GivesInOrder : ClientLists → Type 0
GivesInOrder lists = (client publisher : ℕ) → IsStrictlyRising (ordinals_in publisher (lists.received client))

-- the ids of deliveries
abbrev pub ids_of : List Delivery → List Id
ids_of deliveries = map (λ d. d.id) deliveries

-- BARRIER ORDER: of two deliveries to a client the second is of no earlier phase
abbrev pub GivesByPhase : NetParts → ClientLists → Type 0
GivesByPhase net lists = (client : ℕ) (one other : Publication real) (phase next : ℕ) → IsClient net client
    → StandsBefore (ids_of (lists.received client)) (id_of one) (id_of other)
    → IsPublishedIn real (phased_net net) phase one → IsPublishedIn real (phased_net net) next other → phase ≤ next

-- the publishes that were refused are those that the client's advertisements do not allow
abbrev pub RefusesByScripts : NetParts → ClientLists → Type 0
RefusesByScripts net lists = (client : ℕ) → IsClient net client → lists.refused client ≡ all_refused net client

-- where all that flooding allows to a client it owes too, the lines of its sorted deliveries are those that `flood` prints of the document
abbrev pub GivesFlooded : List ℕ → NetParts → ClientLists → Type 0
GivesFlooded input net lists = (text : List ℕ) (flood : IsFloodOf input text) (place : ℕ) (rows : List OwedRow)
    → slice_get flood.rows place ≡ Some rows → AreOwed rows
    → flat_map (row_line net.clients (texts_in net.clients)) rows ≡ flat_map (delivery_line net.clients) (by_id (lists.received (suc place)))

-- where that is so of all clients, the whole sorted text is what `flood` prints
abbrev pub PrintsFlood : List ℕ → NetParts → ClientLists → Type 0
PrintsFlood input net lists = (text : List ℕ) (flood : IsFloodOf input text) → AllOwed flood.rows → lists_text net lists true ≡ text

-- a command publishes no other than a notice in its one form
abbrev pub IsOfNotice : Command → Type 0
IsOfNotice (commands.Subscribe f) = Unit {0}
IsOfNotice (commands.Unsubscribe f) = Unit {0}
IsOfNotice (commands.Advertise a) = Unit {0}
IsOfNotice (commands.Unadvertise a) = Unit {0}
IsOfNotice (commands.Publish n) = IsNotice n

abbrev pub IsScriptOfNotices : List (ℕ × Command) → Type 0
IsScriptOfNotices [] = Unit {0}
IsScriptOfNotices (step ∷ steps) = IsOfNotice step.1 × IsScriptOfNotices steps

abbrev pub AreOfNotices : List ClientParts → Type 0
AreOfNotices [] = Unit {0}
AreOfNotices (client ∷ clients) = IsScriptOfNotices client.script × AreOfNotices clients

-- WHAT THE CLIENTS ARE PROMISED: the text is that of lists of refused publishes and of deliveries, with the trace behind; what is published is a notice
-- of well-formed values; the refused publishes are those of the scripts; each publication that flooding owes was delivered exactly once, nothing that it
-- does not allow, nothing twice, each text being that of the notice published, in the order of each publisher and of the phases; what is due, which asks
-- less than owed, was delivered exactly once too; and each client of stable inputs has flooding's deliveries
pub record ClientPromise (shown : Shown) (input text : List ℕ) (net : NetParts) (lists : ClientLists) (trace : List ℕ) : Type 0 where
  pub printed : text ≡ lists_text net lists shown.sorted ++ trace
  pub notices : AreOfNotices net.clients
  pub refusals : RefusesByScripts net lists
  pub owed_once : GivesOwedOnce net lists
  pub due_once : GivesDueOnce net lists
  pub allowed : GivesAllowed net lists
  pub never_twice : GivesOnce lists
  pub in_order : GivesInOrder lists
  pub by_phase : GivesByPhase net lists
  pub stable : GivesFlooded input net lists
  pub all_stable : PrintsFlood input net lists
