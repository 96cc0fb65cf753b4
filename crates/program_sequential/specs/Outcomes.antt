-- How a call ends: what it prints and what it tells, by what words ask for, what the source gave in the call and what the sink took.
use Rattle.std.specs.Prelude.{◌≡◌, ◌≢◌, ◌↔◌, ◌⊎◌, ℕ, Bool, List, [], Option, None}
use Rattle.net_model.specs.Parts.{EntryParts}
use Rattle.document_reader.specs.declared.fault.Fault.{Fault}
use Rattle.output_patterns.specs.declared.fault.PatternKind.{PatternKind}
use Rattle.audit_verdict.specs.declared.fault.AuditKind.{AuditKind}
use Rattle.program_sequential.specs.declared.unknown.Unknown.{Unknown as Kind}
use Rattle.program_sequential.specs.declared.words.Wanted.{Wanted}
use Rattle.program_sequential.specs.declared.status.Status.{Status}
use Rattle.program_sequential.specs.declared.status.Status.TheVariants.{Done, Usage, BadInput, BadPattern, Refuted, Unknown, WriteFault, NoMemory}
use Rattle.program_sequential.specs.Answers.{Prints, PrintsPart, HasFault, GaveRefused, GaveBadPattern, GaveRefuted, GaveWrong, GaveUnknown}

-- WHAT A CALL PRINTS AND TELLS. It is done only where the sink took the whole text that is asked for, which gives the journal that was made, and at a
-- write fault a front of such a text; a refusal is told only where it has its cause, and what must be refused is told so, out of memory aside
pub record IsOutcome (wanted : Option Wanted) (given now : List ℕ) (ended : Bool) (old new : List ℕ) (status : Status) (made : List EntryParts) : Type 0 where
  pub printed : status ≡ Done → Prints wanted given now ended made old new
  pub part : status ≡ WriteFault → PrintsPart wanted given now ended old new
  pub journal : status ≢ Done → made ≡ []
  pub usage : (status ≡ Usage) ↔ (wanted ≡ None)
  pub bad_input : (line : ℕ) (kind : Fault) → status ≡ BadInput line kind → HasFault wanted given now ended line kind
  pub bad_pattern : (line : ℕ) (kind : PatternKind) → status ≡ BadPattern line kind → GaveBadPattern wanted given now ended line kind
  pub refuted : (line : ℕ) (kind : AuditKind) → status ≡ Refuted line kind → GaveRefuted wanted given now ended line kind
  pub unknown : (kind : Kind) → status ≡ Unknown kind → GaveUnknown wanted given now ended kind
  pub refused : (line : ℕ) (kind : Fault) → GaveRefused wanted given now ended line kind → (status ≡ BadInput line kind) ⊎ (status ≡ NoMemory)
  pub refused_pattern : (line : ℕ) (kind : PatternKind) → GaveBadPattern wanted given now ended line kind
      → (status ≡ BadPattern line kind) ⊎ (status ≡ NoMemory)
  pub wrong : (line : ℕ) (kind : AuditKind) → GaveWrong wanted given now ended line kind → (status ≡ Refuted line kind) ⊎ (status ≡ NoMemory)
  pub not_there : (kind : Kind) → GaveUnknown wanted given now ended kind → (status ≡ Unknown kind) ⊎ (status ≡ NoMemory)
