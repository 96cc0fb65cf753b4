-- What the clients received by the end of a run, and what flooding owes where nothing is allowed alone.
use Rattle.std.specs.Prelude.{◌≡◌, ℕ, suc, true, List, [], ◌∷◌}
use Rattle.base.specs.Sets.{Has}
use Rattle.law_phases.specs.Runs.{PhasedRun}
use Rattle.law_phases.specs.AtMoments.{inbox_of}
use Rattle.net_model.specs.Real.{real}
use Rattle.filter_text.specs.Deliveries.{Delivery}
use Rattle.net_model.specs.Parts.{ClientParts}
use Rattle.net_model.specs.Meaning.{deliveries_of}
use Rattle.output_flood.specs.declared.owed.OwedRow.{OwedRow}

-- the inboxes of clients numbered on from one
abbrev pub inboxes : (ℕ → List Delivery) → ℕ → List ClientParts → List (List Delivery)
inboxes inbox number [] = []
inboxes inbox number (client ∷ clients) = inbox number ∷ inboxes inbox (suc number) clients

-- what each client received by the end of a run
abbrev pub received_at_end : PhasedRun real → List ClientParts → List (List Delivery)
received_at_end run clients = inboxes (λ client. deliveries_of (inbox_of real run client)) 1 clients

-- all of a client's rows are owed
abbrev pub AreOwed : List OwedRow → Type 0
AreOwed rows = (row : OwedRow) → Has row rows → row.must ≡ true

-- all that is allowed is owed
abbrev pub AllOwed : List (List OwedRow) → Type 0
AllOwed lists = (rows : List OwedRow) → Has rows lists → AreOwed rows
