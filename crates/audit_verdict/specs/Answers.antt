-- How the code follows the definitions; no promise to a caller speaks of it.
use Rattle.std.specs.Prelude.{◌≡◌, ℕ, Bool, true, false, List, [], Result, Ok, Err, Option, Some, None}
use Rattle.net_model.specs.declared.turn.Turn.{Turn}
use Rattle.net_model.specs.Parts.{NetParts, EntryParts}
use Rattle.net_turns.specs.Network.{NetworkParts}
use Rattle.audit_claim.specs.Claim.{IsBadDocument}
use Rattle.audit_claim.specs.Difference.{difference}
use Rattle.audit_claim.specs.declared.fault.ClaimFault.{ClaimFault}
use Rattle.audit_claim.specs.declared.fault.ClaimFault.TheVariants as claims
use Rattle.audit_verdict.specs.declared.fault.AuditFault.{AuditFault}
use Rattle.audit_verdict.specs.declared.fault.AuditFault.TheVariants as faults
use Rattle.audit_verdict.specs.declared.fault.AuditKind.TheVariants.{BadTurn, Differs, Form, Open}
use Rattle.audit_verdict.specs.Kinds.{AreMade, RunKind, StopsAtLine}
use Rattle.audit_verdict.specs.Comparing.{ComparingParts, IsComparedTo}
use Rattle.audit_verdict.specs.Verdict.{IsAudited, IsOutputOf, IsRefuted, MakesRun, Owes, delivered_in, line_at}

-- of an input that claims nothing
abbrev pub fault_of_claim : ClaimFault → AuditFault
fault_of_claim (claims.Document line kind) = faults.Document line kind
fault_of_claim (claims.Form line) = faults.Refuted line Form
fault_of_claim claims.NoMemory = faults.NoMemory

-- whether a run is drained
abbrev pub TellsDrained : RunKind → Bool → NetParts → List EntryParts → Type 0
TellsDrained kind true net journal = kind.IsDrainedBy net journal
TellsDrained kind false net journal = kind.IsDrainedBy net journal → ⊥

-- the network after turns, as it is seen, or the turn that is not permitted
abbrev pub TellsMade : {A : Type 0} → RunKind → (A → NetworkParts) → NetParts → List (ℕ × Turn) → Result A AuditFault → Type 0
TellsMade kind view net turns (Ok a) = ((view a).net ≡ net) × AreMade kind net [] turns (view a).journal
TellsMade kind view net turns (Err faults.NoMemory) = Unit {0}
TellsMade kind view net turns (Err (faults.Document line fault)) = ⊥
TellsMade kind view net turns (Err (faults.Refuted line fault)) = (fault ≡ BadTurn) × StopsAtLine kind net [] turns line

-- by the text that was compared, and whether the run is drained
abbrev pub ConcludesAt : ℕ → ℕ → List ℕ → Bool → Result (Unit {0}) AuditFault → Option ℕ → Type 0
ConcludesAt first end output drained result (Some place) = result ≡ Err (faults.Refuted (line_at first end output place) Differs)
ConcludesAt first end output true result None = result ≡ Ok tt
ConcludesAt first end output false result None = result ≡ Err (faults.Refuted end Open)

abbrev pub Concludes : ComparingParts → ℕ → ℕ → List ℕ → Bool → Result (Unit {0}) AuditFault → Type 0
Concludes c first end output drained result = (text : List ℕ) → IsComparedTo c text → ConcludesAt first end output drained result (difference output text)

-- what is told of the run that turns make
abbrev pub TellsRun : {A : Type 0} → RunKind → (A → List EntryParts) → (A → ℕ) → NetParts → ℕ → ℕ → List ℕ → List (ℕ × Turn) → Result A AuditFault → Type 0
TellsRun kind journal deliveries net first end output turns (Ok a) =
    MakesRun kind net first end output turns (Ok (journal a)) × IsOutputOf kind net (journal a) output × (deliveries a ≡ delivered_in kind net (journal a))
TellsRun kind journal deliveries net first end output turns (Err faults.NoMemory) = Unit {0}
TellsRun kind journal deliveries net first end output turns (Err (faults.Document line fault)) = ⊥
TellsRun kind journal deliveries net first end output turns (Err (faults.Refuted line fault)) =
    MakesRun kind net first end output turns (Err (line, fault))

-- and of what it owes besides, by its net
abbrev pub OwesWhere : {A : Type 0} → (A → NetParts) → (A → ℕ) → NetParts → Result A AuditFault → Type 0
OwesWhere of owed net (Ok a) = (of a ≡ net) × Owes net (owed a)
OwesWhere of owed net (Err e) = Unit {0}

abbrev pub TellsAudited : {A : Type 0} → RunKind → (A → NetParts) → (A → List EntryParts) → (A → ℕ) → (A → ℕ)
    → NetParts → ℕ → ℕ → List ℕ → List (ℕ × Turn) → Result A AuditFault → Type 0
TellsAudited kind of journal owed deliveries net first end output turns result =
    TellsRun kind journal deliveries net first end output turns result × OwesWhere of owed net result

-- the answer to an input
abbrev pub AnswersAudit : {A : Type 0} → RunKind → (A → NetParts) → (A → List EntryParts) → (A → ℕ) → (A → ℕ) → List ℕ → Result A AuditFault → Type 0
AnswersAudit kind of journal owed deliveries bytes (Ok a) = IsAudited kind bytes (of a) (journal a) (owed a) (deliveries a)
AnswersAudit kind of journal owed deliveries bytes (Err faults.NoMemory) = Unit {0}
AnswersAudit kind of journal owed deliveries bytes (Err (faults.Document line fault)) = IsBadDocument bytes line fault
AnswersAudit kind of journal owed deliveries bytes (Err (faults.Refuted line fault)) = IsRefuted kind bytes line fault
