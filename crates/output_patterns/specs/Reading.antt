-- How the code follows the definitions; no promise to a caller speaks of it.
use Rattle.std.specs.Prelude.{◌≡◌, ℕ, List, Result, Ok, Err}
use Rattle.net_model.specs.Parts.{NetParts}
use Rattle.document_script.specs.declared.fault.ScriptFault.{ScriptFault}
use Rattle.document_script.specs.declared.fault.ScriptFault.TheVariants as scripts
use Rattle.document_reader.specs.Commands.{document_fault}
use Rattle.document_reader.specs.declared.fault.LineFault.{LineFault}
use Rattle.document_reader.specs.declared.fault.LineFault.TheVariants as lines
use Rattle.document_reader.specs.Net.{IsBadAt, IsNetOf}
use Rattle.output_patterns.specs.Parts.{PatternParts}
use Rattle.output_patterns.specs.Steps.{step_fault}
use Rattle.output_patterns.specs.Watch.{IsBadDocument, IsBadPattern, IsWatchOf}
use Rattle.output_patterns.specs.declared.fault.PatternFault.{PatternFault}
use Rattle.output_patterns.specs.declared.fault.PatternFault.TheVariants as faults
use Rattle.output_patterns.specs.declared.fault.PatternKind.{PatternKind}

-- the fault of a step that a fault of its subscription is; out of memory stays what it is
abbrev pub Tells : LineFault PatternKind → ScriptFault → Type 0
Tells told scripts.NoMemory = told ≡ lines.NoMemory
Tells told e = told ≡ lines.Kind (step_fault (document_fault e))

-- the patterns, as they are seen, are those that were read, or this is the fault that was, unless memory ran out
abbrev pub ReadsPatterns : {X : Type 0} → (X → List PatternParts) → Result X PatternFault → Result (List PatternParts) (ℕ × PatternKind) → Type 0
ReadsPatterns view (Ok x) read = read ≡ Ok (view x)
ReadsPatterns view (Err faults.NoMemory) read = Unit {0}
ReadsPatterns view (Err (faults.Bad line kind)) read = read ≡ Err (line, kind)
ReadsPatterns view (Err (faults.Document line kind)) read = ⊥

-- the net is that of the document, or it is refused there, unless memory ran out
abbrev pub ReadsDocument : List ℕ → Result NetParts PatternFault → Type 0
ReadsDocument bytes (Ok net) = IsNetOf bytes net
ReadsDocument bytes (Err faults.NoMemory) = Unit {0}
ReadsDocument bytes (Err (faults.Bad line kind)) = ⊥
ReadsDocument bytes (Err (faults.Document line kind)) = IsBadAt bytes line kind

-- the net and the patterns, as they are seen, are those of the input, or this is its fault, unless memory ran out
abbrev pub AnswersWatch : {W : Type 0} → (W → NetParts) → (W → List PatternParts) → List ℕ → Result W PatternFault → Type 0
AnswersWatch net patterns bytes (Ok w) = IsWatchOf bytes (net w) (patterns w)
AnswersWatch net patterns bytes (Err faults.NoMemory) = Unit {0}
AnswersWatch net patterns bytes (Err (faults.Document line kind)) = IsBadDocument bytes line kind
AnswersWatch net patterns bytes (Err (faults.Bad line kind)) = IsBadPattern bytes line kind
