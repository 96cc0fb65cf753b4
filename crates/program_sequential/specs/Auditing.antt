-- How the code answers to `audit`; no promise to a caller speaks of it.
use Rattle.std.specs.Prelude.{◌≡◌, ◌≤◌, ℕ, Bool, true, List, length, Result, Ok, Err}
use Rattle.base_devices.specs.Whole.{Gave}
use Rattle.net_model.specs.Parts.{NetParts, EntryParts}
use Rattle.net_model.specs.Sound.{IsSound}
use Rattle.audit_verdict.specs.Kinds.{RunKind}
use Rattle.audit_verdict.specs.Verdict.{IsAudited, IsRefuted}
use Rattle.program_sequential.specs.declared.unanswered.Unanswered.{Unanswered}
use Rattle.program_sequential.specs.declared.unanswered.Unanswered.TheVariants as whys
use Rattle.program_sequential.specs.declared.words.Wanted.TheVariants.{Audit}
use Rattle.program_sequential.specs.Audits.{IsAuditBy, IsAuditAtFault, IsAuditRefuted, audit_text}
use Rattle.program_sequential.specs.Answers.{IsPrintedBy, HasFaultFor, GaveRefutedFor}
use Rattle.program_sequential.specs.Promise.{AreOfNotices}
use Rattle.program_sequential.specs.Showing.{PrintedParts}

-- the output of an input is that of a run of a kind, whose net is sound and publishes notices, and this is the text of its counts
pub record IsConfirmed (kind : RunKind) (input text : List ℕ) (journal : List EntryParts) : Type 0 where
  pub net : NetParts
  pub owed : ℕ
  pub deliveries : ℕ
  pub audited : IsAudited kind input net journal owed deliveries
  pub sound : IsSound net
  pub notices : AreOfNotices net.clients
  pub printed : text ≡ audit_text (length journal) owed deliveries

-- the answer to an input whose output is said to be that of a run of a kind
abbrev pub AuditsKind : RunKind → List ℕ → Result PrintedParts Unanswered → Type 0
AuditsKind kind input (Ok p) = IsConfirmed kind input p.text p.journal
AuditsKind kind input (Err (whys.BadInput line fault)) = IsAuditAtFault input line fault
AuditsKind kind input (Err (whys.BadPattern line fault)) = ⊥
AuditsKind kind input (Err (whys.Refuted line why)) = (length input ≤ 268435456) × IsRefuted kind input line why
AuditsKind kind input (Err (whys.Unknown name)) = ⊥
AuditsKind kind input (Err whys.ReadFault) = ⊥
AuditsKind kind input (Err whys.NoMemory) = Unit {0}

-- the answer to an input
abbrev pub AuditsInput : Bool → List ℕ → Result PrintedParts Unanswered → Type 0
AuditsInput hierarchy input (Ok p) = IsAuditBy hierarchy input p.text p.journal
AuditsInput hierarchy input (Err (whys.BadInput line kind)) = IsAuditAtFault input line kind
AuditsInput hierarchy input (Err (whys.BadPattern line kind)) = ⊥
AuditsInput hierarchy input (Err (whys.Refuted line kind)) = IsAuditRefuted hierarchy input line kind
AuditsInput hierarchy input (Err (whys.Unknown kind)) = ⊥
AuditsInput hierarchy input (Err whys.ReadFault) = ⊥
AuditsInput hierarchy input (Err whys.NoMemory) = Unit {0}

-- the answer to what a source gave
abbrev pub AuditsSource : Bool → List ℕ → List ℕ → Bool → Result PrintedParts Unanswered → Type 0
AuditsSource hierarchy given now ended (Ok p) = IsPrintedBy (Audit hierarchy) given now ended p.text p.journal
AuditsSource hierarchy given now ended (Err (whys.BadInput line kind)) = HasFaultFor (Audit hierarchy) given now ended line kind
AuditsSource hierarchy given now ended (Err (whys.BadPattern line kind)) = ⊥
AuditsSource hierarchy given now ended (Err (whys.Refuted line kind)) = GaveRefutedFor (Audit hierarchy) given now ended line kind
AuditsSource hierarchy given now ended (Err (whys.Unknown kind)) = ⊥
AuditsSource hierarchy given now ended (Err whys.ReadFault) = (ended ≡ true → ⊥) × Gave given now (λ bytes. length bytes ≤ 268435456)
AuditsSource hierarchy given now ended (Err whys.NoMemory) = Unit {0}
