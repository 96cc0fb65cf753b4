-- What is answered to `audit`, of an input: a document, the line `output`, and an output.
use Rattle.std.specs.Prelude.{◌≡◌, ◌<◌, ◌≤◌, ◌⊎◌, ℕ, Bool, List, [], ◌∷◌, ◌++◌, true, false, length, codes}
use Rattle.std.specs.Fmt.{decimal}
use Rattle.net_model.specs.Parts.{NetParts, EntryParts}
use Rattle.document_reader.specs.declared.fault.Fault.{Fault}
use Rattle.document_reader.specs.declared.fault.Fault.TheVariants.{TooLong}
use Rattle.audit_claim.specs.Claim.{IsBadDocument}
use Rattle.audit_verdict.specs.Kinds.{RunKind, peers}
use Rattle.audit_verdict.specs.Verdict.{CanAudit, IsAudited, IsRefuted, MustBeRefuted}
use Rattle.audit_verdict.specs.declared.fault.AuditKind.{AuditKind}
use Rattle.audit_hierarchy.specs.Runs.{hierarchies}
use Rattle.hierarchy_turns.specs.Promise.{HierarchyPromise}
use Rattle.program_sequential.specs.declared.words.Shown.{Shown}
use Rattle.program_sequential.specs.Hierarchy.{hierarchy_lists, hierarchy_trace}
use Rattle.program_sequential.specs.Promise.{ClientPromise}
use Rattle.program_sequential.specs.Network.{RunPromise, lists_by}
use Rattle.program_sequential.specs.Printed.{trace_of}

-- a run in the order received, with its trace
abbrev pub traced : Shown
traced = record { sorted = false; trace = true }

-- how many entries the run has, publications flooding owes, and deliveries there were
abbrev pub audit_text : ℕ → ℕ → ℕ → List ℕ
audit_text entries owed deliveries =
    codes "audit yes entries " ++ decimal entries ++ codes " owed " ++ decimal owed ++ codes " deliveries " ++ decimal deliveries ++ 10 ∷ []

-- THE TEXT OF AN AUDIT, of an input that is not too long: its output is that of the run of this journal and of no other, the clients are promised of that
-- output what they are promised of what is printed of a run, the network is promised to have done what the journal says, and this is the text of its counts
pub record IsAuditOf (input text : List ℕ) (journal : List EntryParts) : Type 0 where
  pub few : length input ≤ 268435456
  pub owed : ℕ
  pub deliveries : ℕ
  pub net : NetParts
  pub audited : IsAudited peers input net journal owed deliveries
  pub clients : ClientPromise traced audited.document audited.output net (lists_by net journal) (trace_of true net journal)
  pub network : RunPromise traced net journal (lists_by net journal) (trace_of true net journal)
  pub printed : text ≡ audit_text (length journal) owed deliveries

-- the same of a run of a hierarchy, whose network has done all that every whole run of one does
pub record IsHierarchyAuditOf (input text : List ℕ) (journal : List EntryParts) : Type 0 where
  pub few : length input ≤ 268435456
  pub owed : ℕ
  pub deliveries : ℕ
  pub net : NetParts
  pub audited : IsAudited hierarchies input net journal owed deliveries
  pub clients : ClientPromise traced audited.document audited.output net (hierarchy_lists net journal) (hierarchy_trace true net journal)
  pub network : HierarchyPromise net journal
  pub printed : text ≡ audit_text (length journal) owed deliveries

-- of peers, or of a hierarchy
abbrev pub IsAuditBy : Bool → List ℕ → List ℕ → List EntryParts → Type 0
IsAuditBy false input text journal = IsAuditOf input text journal
IsAuditBy true input text journal = IsHierarchyAuditOf input text journal

-- the kind of network whose runs are audited
abbrev pub audited_kind : Bool → RunKind
audited_kind false = peers
audited_kind true = hierarchies

-- the input has more bytes than it may have, or its document part is refused
abbrev pub IsAuditAtFault : List ℕ → ℕ → Fault → Type 0
IsAuditAtFault input line kind =
    ((268435456 < length input) × (line ≡ 0) × (kind ≡ TooLong)) ⊎ ((length input ≤ 268435456) × IsBadDocument input line kind)

-- the input is refuted at this line; it must be
abbrev pub IsAuditRefuted : Bool → List ℕ → ℕ → AuditKind → Type 0
IsAuditRefuted hierarchy input line kind = (length input ≤ 268435456) × IsRefuted (audited_kind hierarchy) input line kind

abbrev pub MustRefute : Bool → List ℕ → ℕ → AuditKind → Type 0
MustRefute hierarchy input line kind = (length input ≤ 268435456) × MustBeRefuted (audited_kind hierarchy) input line kind

-- it is not too long and its output is that of a whole run: exactly such an input is confirmed, out of memory aside
abbrev pub CanConfirm : Bool → List ℕ → Type 0
CanConfirm hierarchy input = (length input ≤ 268435456) × CanAudit (audited_kind hierarchy) input
