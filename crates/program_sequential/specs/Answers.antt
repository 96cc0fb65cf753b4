-- What is answered to words, by what the source gave in the call and what the sink took: what is printed, with the outcome's journal, and the faults.
use Rattle.std.specs.Prelude.{◌≡◌, ℕ, ◌<◌, ◌⊎◌, Bool, true, false, List, [], ◌++◌, length, Option, Some, None}
use Rattle.base_devices.specs.Whole.{Gave, TookPart}
use Rattle.net_model.specs.Parts.{EntryParts}
use Rattle.document_reader.specs.declared.fault.Fault.{Fault}
use Rattle.document_generate.specs.Document.{generated}
use Rattle.program_help.specs.Pages.{page_text}
use Rattle.program_sequential.specs.declared.words.Query.{Query}
use Rattle.program_sequential.specs.declared.words.Query.TheVariants.{Run, Hierarchy, Flood, Check, Format, Traffic}
use Rattle.program_sequential.specs.declared.words.Wanted.{Wanted}
use Rattle.program_sequential.specs.declared.words.Wanted.TheVariants.{About, Audit, Document, Explain, Generate, Patterns}
use Rattle.program_sequential.specs.Printed.{IsFloodOf, IsCheckOf, IsFormatOf, IsSummaryOf}
use Rattle.program_sequential.specs.Headline.{Headline}
use Rattle.program_sequential.specs.Hierarchy.{IsHierarchyOf}
use Rattle.program_sequential.specs.Traffic.{IsTrafficOf}
use Rattle.output_patterns.specs.declared.fault.PatternKind.{PatternKind}
use Rattle.program_sequential.specs.Faults.{IsAtFault, MustBeRefused, CanBeDone}
use Rattle.audit_verdict.specs.declared.fault.AuditKind.{AuditKind}
use Rattle.program_sequential.specs.Audits.{CanConfirm, IsAuditBy, IsAuditAtFault, IsAuditRefuted, MustRefute}
use Rattle.document_reader.specs.Net.{IsBadAt}
use Rattle.program_sequential.specs.declared.unknown.Unknown.{Unknown}
use Rattle.program_sequential.specs.Outlooks.{IsExplainedOf, IsNotThere, HasSubject}
use Rattle.program_sequential.specs.Patterns.{IsPatternsOf, IsInputAtFault, IsPatternAtFault, HasPatterns}

-- the text and the journal that a document gives
abbrev pub IsPrintedOf : Query → List ℕ → List ℕ → List EntryParts → Type 0
IsPrintedOf (Run schedule shown) input text journal = Headline schedule shown input text journal
IsPrintedOf (Hierarchy shown) input text journal = IsHierarchyOf shown input text journal
IsPrintedOf Flood input text journal = IsFloodOf input text × (journal ≡ [])
IsPrintedOf Check input text journal = IsCheckOf input text × (journal ≡ [])
IsPrintedOf Format input text journal = IsFormatOf input text × (journal ≡ [])
IsPrintedOf (Traffic graph) input text journal = IsTrafficOf graph input text journal

-- those that a seed gives: its document, or the summary of its walk
abbrev pub IsGenerated : ℕ → Bool → List ℕ → List EntryParts → Type 0
IsGenerated seed false text journal = (text ≡ generated seed) × (journal ≡ [])
IsGenerated seed true text journal = IsSummaryOf (generated seed) text journal

-- THE SOURCE GAVE A DOCUMENT in the call: these are all its bytes up to its end, or they are more than a document may have
abbrev pub GaveDocument : List ℕ → List ℕ → Bool → List ℕ → Type 0
GaveDocument given now ended input = (now ≡ given ++ input) × ((ended ≡ true) ⊎ (4194304 < length input))

-- it gave what is to be audited, which may be longer
abbrev pub GaveOutput : List ℕ → List ℕ → Bool → List ℕ → Type 0
GaveOutput given now ended input = (now ≡ given ++ input) × ((ended ≡ true) ⊎ (268435456 < length input))

-- how many bytes are read at the most, and one more
abbrev pub most_for : Wanted → ℕ
most_for (Document query) = 4194305
most_for (Generate seed summary) = 4194305
most_for Patterns = 4194305
most_for (Explain question) = 4194305
most_for (Audit hierarchy) = 268435457
most_for (About page) = 4194305

abbrev pub most_read : Option Wanted → ℕ
most_read None = 4194305
most_read (Some wanted) = most_for wanted

-- THE INPUT WAS READ OUT: the source stands at its end, or it gave the most that is read
abbrev pub IsReadOut : ℕ → List ℕ → List ℕ → Bool → Type 0
IsReadOut most given now ended = (ended ≡ true) ⊎ Gave given now (λ input. length input ≡ most)

-- what is wanted of the document that the source gave, at whose end it stands; or what a seed gives
abbrev pub IsPrintedBy : Wanted → List ℕ → List ℕ → Bool → List ℕ → List EntryParts → Type 0
IsPrintedBy (Document query) given now ended text journal =
    (input : List ℕ) × (now ≡ given ++ input) × (ended ≡ true) × IsPrintedOf query input text journal
IsPrintedBy (Generate seed summary) given now ended text journal = IsGenerated seed summary text journal
IsPrintedBy Patterns given now ended text journal =
    (input : List ℕ) × (now ≡ given ++ input) × (ended ≡ true) × IsPatternsOf input text journal
IsPrintedBy (Explain question) given now ended text journal =
    (input : List ℕ) × (now ≡ given ++ input) × (ended ≡ true) × IsExplainedOf question input text journal
IsPrintedBy (Audit hierarchy) given now ended text journal =
    (input : List ℕ) × (now ≡ given ++ input) × (ended ≡ true) × IsAuditBy hierarchy input text journal
IsPrintedBy (About page) given now ended text journal = (text ≡ page_text page) × (journal ≡ [])

-- what words ask for
abbrev pub IsPrinted : Option Wanted → List ℕ → List ℕ → Bool → List ℕ → List EntryParts → Type 0
IsPrinted None given now ended text journal = ⊥
IsPrinted (Some wanted) given now ended text journal = IsPrintedBy wanted given now ended text journal

-- a sink took the text that words ask for, which gives this journal
abbrev pub Prints : Option Wanted → List ℕ → List ℕ → Bool → List EntryParts → List ℕ → List ℕ → Type 0
Prints wanted given now ended journal old new = (text : List ℕ) × IsPrinted wanted given now ended text journal × (new ≡ old ++ text)

-- it took a front of such a text that is not all of it
abbrev pub PrintsPart : Option Wanted → List ℕ → List ℕ → Bool → List ℕ → List ℕ → Type 0
PrintsPart wanted given now ended old new =
    (text : List ℕ) × (journal : List EntryParts) × IsPrinted wanted given now ended text journal × TookPart old new text

-- whether a document is wanted of the source
abbrev pub reads_document : Wanted → Bool
reads_document (Document query) = true
reads_document (Generate seed summary) = false
reads_document Patterns = true
reads_document (Explain question) = true
reads_document (Audit hierarchy) = true
reads_document (About page) = false

abbrev pub reads : Option Wanted → Bool
reads None = false
reads (Some wanted) = reads_document wanted

-- the document that the source gave is at fault
abbrev pub HasFaultFor : Wanted → List ℕ → List ℕ → Bool → ℕ → Fault → Type 0
HasFaultFor (Document query) given now ended line kind = (input : List ℕ) × GaveDocument given now ended input × IsAtFault query input line kind
HasFaultFor (Generate seed summary) given now ended line kind = ⊥
HasFaultFor Patterns given now ended line kind = (input : List ℕ) × GaveDocument given now ended input × IsInputAtFault input line kind
HasFaultFor (Explain question) given now ended line kind = (input : List ℕ) × GaveDocument given now ended input × IsBadAt input line kind
HasFaultFor (Audit hierarchy) given now ended line kind = (input : List ℕ) × GaveOutput given now ended input × IsAuditAtFault input line kind
HasFaultFor (About page) given now ended line kind = ⊥

abbrev pub HasFault : Option Wanted → List ℕ → List ℕ → Bool → ℕ → Fault → Type 0
HasFault None given now ended line kind = ⊥
HasFault (Some wanted) given now ended line kind = HasFaultFor wanted given now ended line kind

-- the source gave a document that must be refused
abbrev pub GaveRefusedFor : Wanted → List ℕ → List ℕ → Bool → ℕ → Fault → Type 0
GaveRefusedFor (Document query) given now ended line kind = (input : List ℕ) × GaveDocument given now ended input × MustBeRefused query input line kind
GaveRefusedFor (Generate seed summary) given now ended line kind = ⊥
GaveRefusedFor Patterns given now ended line kind = (input : List ℕ) × GaveDocument given now ended input × IsInputAtFault input line kind
GaveRefusedFor (Explain question) given now ended line kind = (input : List ℕ) × GaveDocument given now ended input × IsBadAt input line kind
GaveRefusedFor (Audit hierarchy) given now ended line kind = (input : List ℕ) × GaveOutput given now ended input × IsAuditAtFault input line kind
GaveRefusedFor (About page) given now ended line kind = ⊥

abbrev pub GaveRefused : Option Wanted → List ℕ → List ℕ → Bool → ℕ → Fault → Type 0
GaveRefused None given now ended line kind = ⊥
GaveRefused (Some wanted) given now ended line kind = GaveRefusedFor wanted given now ended line kind

-- patterns are asked for, and one of those that the source gave behind a document is at fault
abbrev pub GaveBadPatternFor : Wanted → List ℕ → List ℕ → Bool → ℕ → PatternKind → Type 0
GaveBadPatternFor (Document query) given now ended line kind = ⊥
GaveBadPatternFor (Generate seed summary) given now ended line kind = ⊥
GaveBadPatternFor Patterns given now ended line kind = (input : List ℕ) × GaveDocument given now ended input × IsPatternAtFault input line kind
GaveBadPatternFor (Explain question) given now ended line kind = ⊥
GaveBadPatternFor (Audit hierarchy) given now ended line kind = ⊥
GaveBadPatternFor (About page) given now ended line kind = ⊥

abbrev pub GaveBadPattern : Option Wanted → List ℕ → List ℕ → Bool → ℕ → PatternKind → Type 0
GaveBadPattern None given now ended line kind = ⊥
GaveBadPattern (Some wanted) given now ended line kind = GaveBadPatternFor wanted given now ended line kind

-- an audit is asked for, and what the source gave is refuted
abbrev pub GaveRefutedFor : Wanted → List ℕ → List ℕ → Bool → ℕ → AuditKind → Type 0
GaveRefutedFor (Audit hierarchy) given now ended line kind = (input : List ℕ) × GaveOutput given now ended input × IsAuditRefuted hierarchy input line kind
GaveRefutedFor (Document query) given now ended line kind = ⊥
GaveRefutedFor (Generate seed summary) given now ended line kind = ⊥
GaveRefutedFor Patterns given now ended line kind = ⊥
GaveRefutedFor (Explain question) given now ended line kind = ⊥
GaveRefutedFor (About page) given now ended line kind = ⊥

abbrev pub GaveRefuted : Option Wanted → List ℕ → List ℕ → Bool → ℕ → AuditKind → Type 0
GaveRefuted None given now ended line kind = ⊥
GaveRefuted (Some wanted) given now ended line kind = GaveRefutedFor wanted given now ended line kind

-- and it must be refuted
abbrev pub GaveWrongFor : Wanted → List ℕ → List ℕ → Bool → ℕ → AuditKind → Type 0
GaveWrongFor (Audit hierarchy) given now ended line kind = (input : List ℕ) × GaveOutput given now ended input × MustRefute hierarchy input line kind
GaveWrongFor (Document query) given now ended line kind = ⊥
GaveWrongFor (Generate seed summary) given now ended line kind = ⊥
GaveWrongFor Patterns given now ended line kind = ⊥
GaveWrongFor (Explain question) given now ended line kind = ⊥
GaveWrongFor (About page) given now ended line kind = ⊥

abbrev pub GaveWrong : Option Wanted → List ℕ → List ℕ → Bool → ℕ → AuditKind → Type 0
GaveWrong None given now ended line kind = ⊥
GaveWrong (Some wanted) given now ended line kind = GaveWrongFor wanted given now ended line kind

-- an explanation is asked for, and the document that the source gave doesn't have what the question names
abbrev pub GaveUnknownFor : Wanted → List ℕ → List ℕ → Bool → Unknown → Type 0
GaveUnknownFor (Explain question) given now ended kind = (input : List ℕ) × GaveDocument given now ended input × IsNotThere question input kind
GaveUnknownFor (Document query) given now ended kind = ⊥
GaveUnknownFor (Generate seed summary) given now ended kind = ⊥
GaveUnknownFor Patterns given now ended kind = ⊥
GaveUnknownFor (Audit hierarchy) given now ended kind = ⊥
GaveUnknownFor (About page) given now ended kind = ⊥

abbrev pub GaveUnknown : Option Wanted → List ℕ → List ℕ → Bool → Unknown → Type 0
GaveUnknown None given now ended kind = ⊥
GaveUnknown (Some wanted) given now ended kind = GaveUnknownFor wanted given now ended kind

-- words ask for something, and the source gave a document of which that can be done
abbrev pub CanAnswerFor : Wanted → List ℕ → List ℕ → Bool → Type 0
CanAnswerFor (Document query) given now ended = (input : List ℕ) × GaveDocument given now ended input × CanBeDone query input
CanAnswerFor (Generate seed summary) given now ended = Unit {0}
CanAnswerFor Patterns given now ended = (input : List ℕ) × GaveDocument given now ended input × HasPatterns input
CanAnswerFor (Explain question) given now ended = (input : List ℕ) × GaveDocument given now ended input × HasSubject question input
CanAnswerFor (Audit hierarchy) given now ended = (input : List ℕ) × GaveOutput given now ended input × CanConfirm hierarchy input
CanAnswerFor (About page) given now ended = Unit {0}

abbrev pub CanAnswer : Option Wanted → List ℕ → List ℕ → Bool → Type 0
CanAnswer None given now ended = ⊥
CanAnswer (Some wanted) given now ended = CanAnswerFor wanted given now ended
