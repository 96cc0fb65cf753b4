-- What is printed of a document, and of a seed.
use Rattle.std.specs.Prelude.{◌≡◌, ℕ, ◌-◌, Bool, true, false, List, [], ◌++◌, length}
use Rattle.base.specs.Numbers.{sum_over}
use Rattle.net_model.specs.Parts.{NetParts, EntryParts}
use Rattle.net_model.specs.Sound.{publishes}
use Rattle.net_turns.specs.Network.{IsLegal, IsDrainedBy}
use Rattle.net_turns.specs.Told.{told_by}
use Rattle.document_reader.specs.Net.{IsNetOf}
use Rattle.document_format.specs.DocumentText.{as_written, document_text}
use Rattle.document_format.specs.Limits.{FitsDocument}
use Rattle.output_flood.specs.declared.owed.OwedRow.{OwedRow}
use Rattle.output_flood.specs.Flooding.{IsFlooding}
use Rattle.output_report.specs.Deliveries.{deliveries_text}
use Rattle.output_report.specs.Flood.{flood_text}
use Rattle.output_report.specs.Trace.{trace_text}
pub use Rattle.output_report.specs.Counts.{total}
use Rattle.output_report.specs.Summary.{check_text, summary_text}
use Rattle.program_sequential.specs.declared.words.Schedule.TheVariants.{Walk}
use Rattle.program_sequential.specs.declared.words.Shown.{Shown}
use Rattle.program_sequential.specs.Runs.{GoesBy, refused_in, received_in}

-- a text where it is wanted
abbrev pub where_wanted : Bool → List ℕ → List ℕ
where_wanted true text = text
where_wanted false text = []

-- the trace of a journal with its messages, where it is wanted
abbrev pub trace_of : Bool → NetParts → List EntryParts → List ℕ
trace_of wanted net journal = where_wanted wanted (trace_text net journal (told_by net journal))

-- THE TEXT OF A RUN: what each client received, and the trace where it is wanted
abbrev pub run_text : Shown → NetParts → List EntryParts → List ℕ
run_text shown net journal = deliveries_text net (refused_in net journal) (received_in net journal) shown.sorted ++ trace_of shown.trace net journal

-- the text is what flooding brings by a document
pub record IsFloodOf (input text : List ℕ) : Type 0 where
  pub net : NetParts
  pub well_formed : IsNetOf input net
  pub rows : List (List OwedRow)
  pub refused : List (List ℕ)
  pub flooding : IsFlooding net rows refused
  pub printed : text ≡ flood_text net refused rows

-- the text tells how much a document has
pub record IsCheckOf (input text : List ℕ) : Type 0 where
  pub net : NetParts
  pub well_formed : IsNetOf input net
  pub printed : text ≡ check_text net

-- the text is the canonical one of a document; where it is within the limits of a document it is one itself: its net is that of the first, with
-- its turns on their lines of the text, and its own canonical text is the same
pub record IsFormatOf (input text : List ℕ) : Type 0 where
  pub net : NetParts
  pub well_formed : IsNetOf input net
  pub printed : text ≡ document_text net
  pub read : FitsDocument net → IsNetOf text (as_written net)
  pub again : FitsDocument net → (other : NetParts) → IsNetOf text other → document_text other ≡ text

-- how many publishes of a net were accepted in a run that took all commands
abbrev pub accepted_in : NetParts → List EntryParts → ℕ
accepted_in net journal = sum_over publishes net.clients - total (refused_in net journal)

-- how many messages the entries of a journal put on links: one for each neighbour that got one
abbrev pub messages_in : List EntryParts → ℕ
messages_in journal = sum_over (λ entry. length entry.outs) journal

-- THE SUMMARY OF A RUN: accepted publications, deliveries, entries and messages
abbrev pub summary_of : NetParts → List EntryParts → List ℕ
summary_of net journal = summary_text (accepted_in net journal) (total (received_in net journal)) (length journal) (messages_in journal)

-- the text is the summary of the walk of a document
pub record IsSummaryOf (input text : List ℕ) (journal : List EntryParts) : Type 0 where
  pub net : NetParts
  pub well_formed : IsNetOf input net
  pub legal : IsLegal net journal
  pub drained : IsDrainedBy net journal
  pub goes_by : GoesBy Walk net journal
  pub printed : text ≡ summary_of net journal
