-- What an input claims: a document, the line `output`, and an output with a trace.
use Rattle.std.specs.Prelude.{◌≡◌, ◌⊎◌, ℕ, ◌+◌, List, [], ◌∷◌, ◌++◌, drop, length, codes, Result, Ok, Err}
use Rattle.net_model.specs.declared.turn.Turn.{Turn}
use Rattle.net_model.specs.Parts.{NetParts}
use Rattle.document_reader.specs.Lines.{lines}
use Rattle.document_reader.specs.Net.{IsBadAt, IsNetOf}
use Rattle.document_reader.specs.declared.fault.Fault.{Fault}
use Rattle.document_reader.specs.Cut.{IsCutAt, IsNoLine, first_number}
use Rattle.audit_claim.specs.Output.{output_lines}
use Rattle.audit_claim.specs.Trace.{shown_by}

-- AN INPUT is a document with a net, the line `output`, and an output
pub record IsInput (bytes document output : List ℕ) (net : NetParts) : Type 0 where
  pub cut : IsCutAt (codes "output") bytes document output
  pub well_formed : IsNetOf document net

-- the last line is ended by a newline (10)
abbrev pub EndsLine : List ℕ → Type 0
EndsLine bytes = (front : List ℕ) × (bytes ≡ front ++ 10 ∷ [])

-- a document, the line `output` behind it, and an output
abbrev pub with_output : List ℕ → List ℕ → List ℕ
with_output document output = document ++ codes "output\n" ++ output

-- it has no line `output`, and all of it is the document
abbrev pub HasNoOutput : List ℕ → Type 0
HasNoOutput bytes = IsNoLine (codes "output") (lines bytes)

-- the number of the last line plus one
abbrev pub end_number : List ℕ → ℕ
end_number bytes = length (lines bytes) + 1

-- what the output part of an input shows: the turns of its trace with their lines and the number of its end, or the first line that is not of its form
abbrev pub output_shows : NetParts → List ℕ → List ℕ → Result (List (ℕ × Turn) × ℕ) ℕ
output_shows net document output = shown_by net (first_number document) (output_lines output)

-- WHAT AN INPUT CLAIMS: its net; the byte at which its output begins, and the number of that line; the number of the end; and the turns of its trace
pub record IsClaimOf (bytes : List ℕ) (net : NetParts) (from line end : ℕ) (turns : List (ℕ × Turn)) : Type 0 where
  pub document : List ℕ
  pub output : List ℕ
  pub input : IsInput bytes document output net
  pub begins : output ≡ drop from bytes
  pub first : line ≡ first_number document
  pub shows : output_shows net document output ≡ Ok (turns, end)

-- the document part of an input is refused at this line, with this fault
pub record IsBadDocument (bytes : List ℕ) (line : ℕ) (kind : Fault) : Type 0 where
  pub document : List ℕ
  pub part : ((output : List ℕ) × IsCutAt (codes "output") bytes document output) ⊎ (HasNoOutput bytes × (document ≡ bytes))
  pub bad : IsBadAt document line kind

-- a document with a net has no output behind it
abbrev pub IsDocumentAlone : List ℕ → ℕ → Type 0
IsDocumentAlone bytes line = HasNoOutput bytes × ((net : NetParts) × IsNetOf bytes net) × (line ≡ end_number bytes)

-- AN INPUT IS NOT OF ITS FORM: there is no output, or no trace, or this is the first line of the trace that is not of its form
abbrev pub IsFormless : List ℕ → ℕ → Type 0
IsFormless bytes line =
    IsDocumentAlone bytes line
    ⊎ ((document output : List ℕ) × (net : NetParts) × IsInput bytes document output net × (output_shows net document output ≡ Err line))

-- there is an input, and something is so however it is read: its nets differ in nothing but the tables of their trees
abbrev pub HasInput : List ℕ → Type 0
HasInput bytes = (document output : List ℕ) × (net : NetParts) × IsInput bytes document output net

abbrev pub AllInputs : List ℕ → (NetParts → List ℕ → List ℕ → Type 0) → Type 0
AllInputs bytes P = HasInput bytes × ((document output : List ℕ) (net : NetParts) → IsInput bytes document output net → P net document output)

-- it is not of its form, however it is read
abbrev pub MustBeFormless : List ℕ → ℕ → Type 0
MustBeFormless bytes line = IsDocumentAlone bytes line ⊎ AllInputs bytes (λ net document output. output_shows net document output ≡ Err line)

-- it claims something, however it is read
abbrev pub CanClaim : List ℕ → Type 0
CanClaim bytes =
    AllInputs bytes (λ net document output. (turns : List (ℕ × Turn)) × (end : ℕ) × (output_shows net document output ≡ Ok (turns, end)))
