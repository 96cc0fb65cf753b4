-- What is answered to `patterns`, of an input: a document, the line `patterns`, and patterns.
use Rattle.std.specs.Prelude.{◌≡◌, ◌<◌, ◌≤◌, ◌⊎◌, ℕ, List, length, Ok}
use Rattle.net_model.specs.Parts.{EntryParts, NetParts}
use Rattle.document_reader.specs.declared.fault.Fault.{Fault}
use Rattle.document_reader.specs.declared.fault.Fault.TheVariants.{TooLong}
use Rattle.output_patterns.specs.declared.fault.PatternKind.{PatternKind}
use Rattle.output_patterns.specs.Cut.{IsParted}
use Rattle.output_patterns.specs.Parts.{PatternParts}
use Rattle.output_patterns.specs.Watch.{IsBadDocument, IsBadPattern, IsWatchOf, patterns_in}
use Rattle.output_patterns.specs.Found.{found_text}
use Rattle.program_sequential.specs.declared.words.Schedule.TheVariants.{Walk}
use Rattle.program_sequential.specs.Words.{plain}
use Rattle.program_sequential.specs.Runs.{received_in}
use Rattle.program_sequential.specs.Headline.{Headline}

-- THE TEXT OF PATTERNS, of an input that is not too long: the headline holds of the walk of the document part, whatever text
-- that prints, and this is the text of all occurrences of the patterns in what their clients received in it
pub record IsPatternsOf (input text : List ℕ) (journal : List EntryParts) : Type 0 where
  pub few : length input ≤ 4194304
  pub document : List ℕ
  pub later : List (List ℕ)
  pub parted : IsParted input document later
  pub walked : List ℕ
  pub walk : Headline Walk plain document walked journal
  pub patterns : List PatternParts
  pub read : patterns_in walk.net document later ≡ Ok patterns
  pub printed : text ≡ found_text walk.net.clients (received_in walk.net journal) patterns

-- the input has more bytes than it may have, or its document part is refused
abbrev pub IsInputAtFault : List ℕ → ℕ → Fault → Type 0
IsInputAtFault input line kind =
    ((4194304 < length input) × (line ≡ 0) × (kind ≡ TooLong)) ⊎ ((length input ≤ 4194304) × IsBadDocument input line kind)

-- the document part has a net, and a line behind the line `patterns`, or the end, is the first at fault
abbrev pub IsPatternAtFault : List ℕ → ℕ → PatternKind → Type 0
IsPatternAtFault input line kind = (length input ≤ 4194304) × IsBadPattern input line kind

-- the input says a net and patterns
abbrev pub HasPatterns : List ℕ → Type 0
HasPatterns input = (length input ≤ 4194304) × ((net : NetParts) × (patterns : List PatternParts) × IsWatchOf input net patterns)
