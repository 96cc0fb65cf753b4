-- How the code follows the definitions; no promise to a caller speaks of it.
use Rattle.std.specs.Prelude.{◌≡◌, ℕ, List, Result, Ok, Err}
use Rattle.net_model.specs.declared.turn.Turn.{Turn}
use Rattle.net_model.specs.Parts.{NetParts}
use Rattle.document_reader.specs.Net.{IsNetOf, IsBadAt}
use Rattle.audit_claim.specs.Claim.{IsBadDocument, IsClaimOf, IsDocumentAlone, IsFormless}
use Rattle.audit_claim.specs.declared.fault.ClaimFault.{ClaimFault}
use Rattle.audit_claim.specs.declared.fault.ClaimFault.TheVariants.{Document, Form, NoMemory}

-- a line that is not of its form is told; out of memory tells nothing
abbrev pub Refuses : {A : Type 0} → ClaimFault → Result A ℕ → Type 0
Refuses NoMemory read = Unit {0}
Refuses (Form line) read = read ≡ Err line
Refuses (Document line kind) read = ⊥

-- what was read, as it is seen, or the line that is not of its form, unless memory ran out
abbrev pub ReadsAs : {X A : Type 0} → (X → A) → Result X ClaimFault → Result A ℕ → Type 0
ReadsAs view (Ok x) read = read ≡ Ok (view x)
ReadsAs view (Err e) read = Refuses e read

-- after the call there stands what was read, or the line that is not of its form is told, unless memory ran out
abbrev pub Steps : {S A : Type 0} → Result A ClaimFault → S → Result S ℕ → Type 0
Steps (Ok _) new read = read ≡ Ok new
Steps (Err e) new read = Refuses e read

-- the net is that of the document, or it is refused there, unless memory ran out
abbrev pub ReadsDocument : List ℕ → Result NetParts ClaimFault → Type 0
ReadsDocument bytes (Ok net) = IsNetOf bytes net
ReadsDocument bytes (Err NoMemory) = Unit {0}
ReadsDocument bytes (Err (Form line)) = ⊥
ReadsDocument bytes (Err (Document line kind)) = IsBadAt bytes line kind

-- why an input without an output claims nothing
abbrev pub AnswersAlone : List ℕ → ClaimFault → Type 0
AnswersAlone bytes NoMemory = Unit {0}
AnswersAlone bytes (Form line) = IsDocumentAlone bytes line
AnswersAlone bytes (Document line kind) = IsBadAt bytes line kind

-- what an input claims, as it is seen, or why it claims nothing, unless memory ran out
abbrev pub AnswersClaim : {C : Type 0} → (C → NetParts) → (C → ℕ) → (C → ℕ) → (C → ℕ) → (C → List (ℕ × Turn)) → List ℕ → Result C ClaimFault → Type 0
AnswersClaim net from line end turns bytes (Ok c) = IsClaimOf bytes (net c) (from c) (line c) (end c) (turns c)
AnswersClaim net from line end turns bytes (Err NoMemory) = Unit {0}
AnswersClaim net from line end turns bytes (Err (Form n)) = IsFormless bytes n
AnswersClaim net from line end turns bytes (Err (Document n kind)) = IsBadDocument bytes n kind
