-- Defines the texts and numbers of the statuses.
use Rattle.std.specs.Prelude.{ℕ, List, [], ◌++◌, codes}
use Rattle.std.specs.Fmt.{decimal}
use Rattle.document_reader.specs.declared.fault.Fault.{Fault}
use Rattle.document_reader.specs.declared.fault.Fault.TheVariants as faults
use Rattle.output_patterns.specs.declared.fault.PatternKind.{PatternKind}
use Rattle.output_patterns.specs.declared.fault.PatternKind.TheVariants as patterns
use Rattle.audit_verdict.specs.declared.fault.AuditKind.{AuditKind}
use Rattle.audit_verdict.specs.declared.fault.AuditKind.TheVariants as audits
use Rattle.program_help.specs.Pages.{usage_text}
use Rattle.program_sequential.specs.Sentences.{kind_means, pattern_means, unknown_means}
use Rattle.program_sequential.specs.declared.unknown.Unknown.{Unknown}
use Rattle.program_sequential.specs.declared.unknown.Unknown.TheVariants as unknowns
use Rattle.program_sequential.specs.declared.status.Status.{Status}
use Rattle.program_sequential.specs.declared.status.Status.TheVariants as statuses

abbrev pub kind_text : Fault → List ℕ
kind_text faults.TooLong = codes "toolong"
kind_text faults.Ended = codes "ended"
kind_text faults.Header = codes "header"
kind_text faults.Order = codes "order"
kind_text faults.Words = codes "words"
kind_text faults.Range = codes "range"
kind_text faults.Apart = codes "apart"
kind_text faults.Twice = codes "twice"
kind_text faults.Loop = codes "loop"
kind_text faults.Name = codes "name"
kind_text faults.Count = codes "count"
kind_text faults.Syntax = codes "syntax"
kind_text faults.Value = codes "value"
kind_text faults.Operand = codes "operand"
kind_text faults.Repeat = codes "repeat"
kind_text faults.Commands = codes "commands"
kind_text faults.Publications = codes "publications"
kind_text faults.MuchControl = codes "muchcontrol"
kind_text faults.MuchNotice = codes "muchnotice"
kind_text faults.BadTurn = codes "badturn"

abbrev pub pattern_text : PatternKind → List ℕ
pattern_text patterns.Short = codes "short"
pattern_text patterns.Order = codes "order"
pattern_text patterns.Words = codes "words"
pattern_text patterns.Name = codes "name"
pattern_text patterns.Count = codes "count"
pattern_text patterns.Syntax = codes "syntax"
pattern_text patterns.Value = codes "value"
pattern_text patterns.Operand = codes "operand"

abbrev pub audit_text : AuditKind → List ℕ
audit_text audits.Form = codes "form"
audit_text audits.BadTurn = codes "badturn"
audit_text audits.Differs = codes "differs"
audit_text audits.Open = codes "open"

abbrev pub unknown_text : Unknown → List ℕ
unknown_text unknowns.Client = codes "client"
unknown_text unknowns.Publisher = codes "publisher"
unknown_text unknowns.Number = codes "number"

-- the line of a refusal: the word of its kind, and what this means
abbrev pub refusal_text : ℕ → List ℕ → List ℕ → List ℕ
refusal_text line word represents = codes "siena: line " ++ decimal line ++ codes ": " ++ word ++ codes ": " ++ represents ++ codes "\n"

-- the line of an audit that refutes: the word of its kind
abbrev pub refuted_text : ℕ → List ℕ → List ℕ
refuted_text line word = codes "siena: audit: line " ++ decimal line ++ codes ": " ++ word ++ codes "\n"

-- the line of a question that names what isn't there: the word of its kind, and what this means
abbrev pub unanswerable_text : List ℕ → List ℕ → List ℕ
unanswerable_text word represents = codes "siena: explain: " ++ word ++ codes ": " ++ represents ++ codes "\n"

-- what goes to standard error
unfoldable pub status_text : Status → List ℕ
status_text statuses.Done = []
status_text statuses.Usage = usage_text
status_text (statuses.BadInput line kind) = refusal_text line (kind_text kind) (kind_means kind)
status_text (statuses.BadPattern line kind) = refusal_text line (pattern_text kind) (pattern_means kind)
status_text (statuses.Refuted line kind) = refuted_text line (audit_text kind)
status_text (statuses.Unknown kind) = unanswerable_text (unknown_text kind) (unknown_means kind)
status_text statuses.ReadFault = codes "siena: the input could not be read\n"
status_text statuses.WriteFault = codes "siena: the output could not be written\n"
status_text statuses.NoMemory = codes "siena: out of memory\n"

-- the number with which the program ends
abbrev pub status_number : Status → ℕ
status_number statuses.Done = 0
status_number statuses.Usage = 2
status_number (statuses.BadInput line kind) = 3
status_number (statuses.BadPattern line kind) = 8
status_number (statuses.Refuted line kind) = 9
status_number (statuses.Unknown kind) = 10
status_number statuses.ReadFault = 4
status_number statuses.WriteFault = 5
status_number statuses.NoMemory = 6
