-- Defines the verdict of an audit: which outputs are confirmed, and where the others are refuted.
use Rattle.std.specs.Prelude.{◌≡◌, ◌⊎◌, ℕ, ◌+◌, false, List, [], ◌++◌, length, take, filter, nat_eq, if◌then◌else◌, Option, Some, None, Result, Ok, Err}
use Rattle.base.specs.Numbers.{sum_over, count}
use Rattle.net_model.specs.declared.turn.Turn.{Turn}
use Rattle.net_model.specs.Parts.{NetParts, EntryParts}
use Rattle.net_model.specs.Nets.{of_clients}
use Rattle.output_flood.specs.declared.owed.OwedRow.{OwedRow}
use Rattle.output_flood.specs.Flooding.{IsFlooding}
use Rattle.output_report.specs.Counts.{total}
use Rattle.output_report.specs.Deliveries.{deliveries_text}
use Rattle.output_report.specs.Trace.{trace_text}
use Rattle.document_reader.specs.Net.{IsNetOf}
use Rattle.document_reader.specs.Cut.{first_number}
use Rattle.audit_claim.specs.Claim.{AllInputs, EndsLine, IsDocumentAlone, IsInput, output_shows, with_output}
use Rattle.audit_claim.specs.Difference.{difference}
use Rattle.audit_verdict.specs.Kinds.{AreMade, RunKind, StopsAtLine}
use Rattle.audit_verdict.specs.declared.fault.AuditKind.{AuditKind}
use Rattle.audit_verdict.specs.declared.fault.AuditKind.TheVariants as is

-- THE TEXT OF A RUN with its trace: what each client received, in the order received, and each entry with its messages
abbrev pub traced_text : RunKind → NetParts → List EntryParts → List ℕ
traced_text kind net journal =
    deliveries_text net (of_clients net (kind.refused_by net journal)) (of_clients net (kind.received_by net journal)) false
    ++ trace_text net journal (kind.told_by net journal)

-- AN OUTPUT IS THAT OF A WHOLE RUN: its text, and the run is legal and drained
pub record IsOutputOf (kind : RunKind) (net : NetParts) (journal : List EntryParts) (output : List ℕ) : Type 0 where
  pub legal : kind.IsLegal net journal
  pub drained : kind.IsDrainedBy net journal
  pub text : output ≡ traced_text kind net journal

-- the number of the line of an output at which a place stands, where its first line has this number; a newline (10) ends a line, and the place behind all
-- bytes stands at the end
abbrev pub line_at : ℕ → ℕ → List ℕ → ℕ → ℕ
line_at first end output place = if nat_eq place (length output) then end else first + length (filter (nat_eq 10) (take place output))

-- the end of a run whose text is the output: it is drained, or all is refuted at the end
abbrev pub EndsRun : RunKind → NetParts → ℕ → List EntryParts → Result (List EntryParts) (ℕ × AuditKind) → Type 0
EndsRun kind net end journal verdict =
    (kind.IsDrainedBy net journal × (verdict ≡ Ok journal)) ⊎ ((kind.IsDrainedBy net journal → ⊥) × (verdict ≡ Err (end, is.Open)))

-- a run beside the output, by the place at which that is not its text
abbrev pub ComparesRun : RunKind → NetParts → ℕ → ℕ → List ℕ → List EntryParts → Result (List EntryParts) (ℕ × AuditKind) → Option ℕ → Type 0
ComparesRun kind net first end output journal verdict None = EndsRun kind net end journal verdict
ComparesRun kind net first end output journal verdict (Some place) = verdict ≡ Err (line_at first end output place, is.Differs)

-- the turns that an output shows: one of them is the first that is not permitted, or they make a run
abbrev pub MakesRun : RunKind → NetParts → ℕ → ℕ → List ℕ → List (ℕ × Turn) → Result (List EntryParts) (ℕ × AuditKind) → Type 0
MakesRun kind net first end output turns verdict =
    ((line : ℕ) × StopsAtLine kind net [] turns line × (verdict ≡ Err (line, is.BadTurn)))
    ⊎ ((journal : List EntryParts) × AreMade kind net [] turns journal
    × ComparesRun kind net first end output journal verdict (difference output (traced_text kind net journal)))

-- what an output shows, or the first line that is not of its form
abbrev pub ShowsRun : RunKind → NetParts → ℕ → List ℕ → Result (List EntryParts) (ℕ × AuditKind) → Result (List (ℕ × Turn) × ℕ) ℕ → Type 0
ShowsRun kind net first output verdict (Err line) = verdict ≡ Err (line, is.Form)
ShowsRun kind net first output verdict (Ok shown) = MakesRun kind net first shown.1 output shown.0 verdict

-- THE VERDICT on the output of a document: the journal of the run that it shows, or the first line at which it is refuted, with its kind. The kinds are
-- tried in this order: a line that is not of its form, a turn that is not permitted, a text that is not that of the run, a run that is not drained
abbrev pub IsVerdict : RunKind → NetParts → List ℕ → List ℕ → Result (List EntryParts) (ℕ × AuditKind) → Type 0
IsVerdict kind net document output verdict = ShowsRun kind net (first_number document) output verdict (output_shows net document output)

-- AN INPUT IS REFUTED there
abbrev pub IsRefuted : RunKind → List ℕ → ℕ → AuditKind → Type 0
IsRefuted kind bytes line fault =
    ((document output : List ℕ) × (net : NetParts) × IsInput bytes document output net × IsVerdict kind net document output (Err (line, fault)))
    ⊎ (IsDocumentAlone bytes line × (fault ≡ is.Form))

-- it is refuted there, however it is read
abbrev pub MustBeRefuted : RunKind → List ℕ → ℕ → AuditKind → Type 0
MustBeRefuted kind bytes line fault =
    AllInputs bytes (λ net document output. IsVerdict kind net document output (Err (line, fault)))
    ⊎ (IsDocumentAlone bytes line × (fault ≡ is.Form))

-- THE INPUT OF A WHOLE RUN: a document with this net, the line `output`, and the output of this run, which is legal and drained
pub record IsInputOfRun (kind : RunKind) (bytes : List ℕ) (net : NetParts) (journal : List EntryParts) : Type 0 where
  pub document : List ℕ
  pub output : List ℕ
  pub input : IsInput bytes document output net
  pub run : IsOutputOf kind net journal output

-- there is such a run
abbrev pub CanAudit : RunKind → List ℕ → Type 0
CanAudit kind bytes = (net : NetParts) × (journal : List EntryParts) × IsInputOfRun kind bytes net journal

-- AS IT IS WRITTEN: a document with this net, whose last line is ended, the line `output` behind it, and the text of this run, which is legal and drained
pub record IsWrittenByRun (kind : RunKind) (bytes : List ℕ) (net : NetParts) (journal : List EntryParts) : Type 0 where
  pub document : List ℕ
  pub well_formed : IsNetOf document net
  pub ends : EndsLine document
  pub legal : kind.IsLegal net journal
  pub drained : kind.IsDrainedBy net journal
  pub text : bytes ≡ with_output document (traced_text kind net journal)

-- how many rows are owed
abbrev pub owed_of : List OwedRow → ℕ
owed_of rows = sum_over (λ (row : OwedRow). count row.must) rows

abbrev pub owed_in : List (List OwedRow) → ℕ
owed_in lists = sum_over owed_of lists

-- WHAT AN AUDIT COUNTS: the publications that flooding owes, over all clients, and the deliveries of the run
abbrev pub Owes : NetParts → ℕ → Type 0
Owes net owed = (rows : List (List OwedRow)) × (refused : List (List ℕ)) × IsFlooding net rows refused × (owed ≡ owed_in rows)

abbrev pub delivered_in : RunKind → NetParts → List EntryParts → ℕ
delivered_in kind net journal = total (of_clients net (kind.received_by net journal))

-- THE OUTPUT OF AN INPUT IS THAT OF THIS RUN, which is legal and drained, and of no other, with its counts
pub record IsAudited (kind : RunKind) (bytes : List ℕ) (net : NetParts) (journal : List EntryParts) (owed deliveries : ℕ) : Type 0 where
  pub document : List ℕ
  pub output : List ℕ
  pub input : IsInput bytes document output net
  pub run : IsOutputOf kind net journal output
  pub verdict : IsVerdict kind net document output (Ok journal)
  pub only : (other : NetParts) (run : List EntryParts) → IsInputOfRun kind bytes other run → run ≡ journal
  pub owes : Owes net owed
  pub delivers : deliveries ≡ delivered_in kind net journal
