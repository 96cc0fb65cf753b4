-- How the code answers, before anything is written; no promise to a caller speaks of it.
use Rattle.std.specs.Prelude.{◌⊎◌, ℕ, Bool, List, Result, Ok, Err}
use Rattle.std.specs.Result.{IsOk, IsErrOf}
use Rattle.base_devices.specs.declared.whole.ReadAll.{ReadAll}
use Rattle.base_devices.specs.declared.whole.ReadAll.TheVariants as reads
use Rattle.document_reader.specs.declared.fault.Fault.{Fault}
use Rattle.document_reader.specs.declared.fault.Fault.TheVariants.{TooLong}
use Rattle.document_reader.specs.declared.fault.InputFault.{InputFault}
use Rattle.document_reader.specs.declared.fault.InputFault.TheVariants as inputs
use Rattle.output_patterns.specs.declared.fault.PatternKind.{PatternKind}
use Rattle.output_patterns.specs.declared.fault.PatternFault.{PatternFault}
use Rattle.output_patterns.specs.declared.fault.PatternFault.TheVariants as faults
use Rattle.audit_verdict.specs.declared.fault.AuditKind.{AuditKind}
use Rattle.audit_verdict.specs.declared.fault.AuditFault.{AuditFault}
use Rattle.audit_verdict.specs.declared.fault.AuditFault.TheVariants as audits
use Rattle.output_explain.specs.declared.fault.ExplainFault.{ExplainFault}
use Rattle.output_explain.specs.declared.fault.ExplainFault.TheVariants as explains
use Rattle.program_sequential.specs.declared.unknown.Unknown.{Unknown}
use Rattle.program_sequential.specs.declared.unknown.Unknown.TheVariants as unknowns
use Rattle.program_sequential.specs.declared.unanswered.Unanswered.{Unanswered}
use Rattle.program_sequential.specs.declared.unanswered.Unanswered.TheVariants as whys
use Rattle.program_sequential.specs.declared.status.Status.{Status}
use Rattle.program_sequential.specs.declared.status.Status.TheVariants as statuses
use Rattle.program_sequential.specs.declared.words.Wanted.{Wanted}
use Rattle.program_sequential.specs.Answers.{IsPrintedBy, HasFaultFor, GaveRefusedFor, GaveBadPatternFor, GaveRefutedFor, GaveWrongFor, GaveUnknownFor, CanAnswerFor}
use Rattle.program_sequential.specs.Showing.{PrintedParts}

-- the status that reports it
abbrev pub status_of : Unanswered → Status
status_of (whys.BadInput line kind) = statuses.BadInput line kind
status_of (whys.BadPattern line kind) = statuses.BadPattern line kind
status_of (whys.Refuted line kind) = statuses.Refuted line kind
status_of (whys.Unknown kind) = statuses.Unknown kind
status_of whys.ReadFault = statuses.ReadFault
status_of whys.NoMemory = statuses.NoMemory

-- of a document that is refused
abbrev pub of_input_fault : InputFault → Unanswered
of_input_fault (inputs.Bad line kind) = whys.BadInput line kind
of_input_fault inputs.NoMemory = whys.NoMemory

-- of a source that could not be read to its end, or gave too much
abbrev pub of_unread : ReadAll → Unanswered
of_unread reads.TooLong = whys.BadInput 0 TooLong
of_unread reads.Failed = whys.ReadFault
of_unread reads.NoMemory = whys.NoMemory

-- of patterns that are refused
abbrev pub of_pattern_fault : PatternFault → Unanswered
of_pattern_fault (faults.Document line kind) = whys.BadInput line kind
of_pattern_fault (faults.Bad line kind) = whys.BadPattern line kind
of_pattern_fault faults.NoMemory = whys.NoMemory

-- of what is not confirmed
abbrev pub of_audit_fault : AuditFault → Unanswered
of_audit_fault (audits.Document line kind) = whys.BadInput line kind
of_audit_fault (audits.Refuted line kind) = whys.Refuted line kind
of_audit_fault audits.NoMemory = whys.NoMemory

-- of a question without an answer
abbrev pub of_explain_fault : ExplainFault → Unanswered
of_explain_fault explains.NoClient = whys.Unknown unknowns.Client
of_explain_fault explains.NoPublisher = whys.Unknown unknowns.Publisher
of_explain_fault explains.NoPublication = whys.Unknown unknowns.Number
of_explain_fault explains.NoMemory = whys.NoMemory

-- the answer about a document, among all answers
abbrev pub widened : {T : Type 0} → Result T InputFault → Result T Unanswered
widened (Ok p) = Ok p
widened (Err fault) = Err (of_input_fault fault)

-- what an answer says of what the source gave
abbrev pub Says : Wanted → List ℕ → List ℕ → Bool → Result PrintedParts Unanswered → Type 0
Says wanted given now ended (Ok p) = IsPrintedBy wanted given now ended p.text p.journal
Says wanted given now ended (Err (whys.BadInput line kind)) = HasFaultFor wanted given now ended line kind
Says wanted given now ended (Err (whys.BadPattern line kind)) = GaveBadPatternFor wanted given now ended line kind
Says wanted given now ended (Err (whys.Refuted line kind)) = GaveRefutedFor wanted given now ended line kind
Says wanted given now ended (Err (whys.Unknown kind)) = GaveUnknownFor wanted given now ended kind
Says wanted given now ended (Err whys.ReadFault) = Unit {0}
Says wanted given now ended (Err whys.NoMemory) = Unit {0}

-- it says so, and what must be refused, and what can be done, has its answer, out of memory aside
pub record IsAnswer (wanted : Wanted) (given now : List ℕ) (ended : Bool) (answer : Result PrintedParts Unanswered) : Type 0 where
  pub says : Says wanted given now ended answer
  pub refused : (line : ℕ) (kind : Fault) → GaveRefusedFor wanted given now ended line kind
      → IsErrOf answer (whys.BadInput line kind) ⊎ IsErrOf answer whys.NoMemory
  pub refused_pattern : (line : ℕ) (kind : PatternKind) → GaveBadPatternFor wanted given now ended line kind
      → IsErrOf answer (whys.BadPattern line kind) ⊎ IsErrOf answer whys.NoMemory
  pub wrong : (line : ℕ) (kind : AuditKind) → GaveWrongFor wanted given now ended line kind
      → IsErrOf answer (whys.Refuted line kind) ⊎ IsErrOf answer whys.NoMemory
  pub unknown : (kind : Unknown) → GaveUnknownFor wanted given now ended kind → IsErrOf answer (whys.Unknown kind) ⊎ IsErrOf answer whys.NoMemory
  pub done : CanAnswerFor wanted given now ended → IsOk answer ⊎ IsErrOf answer whys.NoMemory
