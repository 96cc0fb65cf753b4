-- When a document is at fault, and when all that is wanted of it can be done.
use Rattle.std.specs.Prelude.{◌≡◌, ℕ, List, [], ◌⊎◌}
use Rattle.net_model.specs.declared.turn.Turn.{Turn}
use Rattle.net_model.specs.Parts.{NetParts, EntryParts}
use Rattle.net_turns.specs.Turns.{AreMade}
pub use Rattle.net_turns.specs.Stopping.{StopsAtLine}
use Rattle.document_reader.specs.declared.fault.Fault.{Fault}
use Rattle.document_reader.specs.declared.fault.Fault.TheVariants.{BadTurn}
use Rattle.document_reader.specs.declared.fault.InputFault.{InputFault}
use Rattle.document_reader.specs.declared.fault.InputFault.TheVariants as inputs
use Rattle.document_reader.specs.Net.{IsNetOf, IsBadAt}
use Rattle.net_turns.specs.declared.replaying.ReplayFault.{ReplayFault}
use Rattle.net_turns.specs.declared.replaying.ReplayFault.TheVariants as turns
use Rattle.program_sequential.specs.declared.words.Schedule.{Schedule}
use Rattle.program_sequential.specs.declared.words.Query.{Query}
use Rattle.program_sequential.specs.declared.words.Query.TheVariants.{Run, Hierarchy, Flood, Check, Format, Traffic}
use Rattle.program_sequential.specs.Runs.{turns_first}

-- each of these turns is permitted when it comes
abbrev pub ArePermitted : NetParts → List (ℕ × Turn) → Type 0
ArePermitted net turns = (after : List EntryParts) × AreMade net [] turns after

-- a document has a net
abbrev pub HasNet : List ℕ → Type 0
HasNet input = (net : NetParts) × IsNetOf input net

-- a document's schedule stops at a line
abbrev pub IsStopped : Schedule → List ℕ → ℕ → Type 0
IsStopped schedule input line = (net : NetParts) × IsNetOf input net × StopsAtLine net [] (turns_first schedule net) line

-- A DOCUMENT IS AT FAULT for what is wanted of it: its first line at fault, or the first turn that is not permitted
abbrev pub IsAtFault : Query → List ℕ → ℕ → Fault → Type 0
IsAtFault (Run schedule shown) input line kind = IsBadAt input line kind ⊎ ((kind ≡ BadTurn) × IsStopped schedule input line)
IsAtFault (Hierarchy shown) input line kind = IsBadAt input line kind
IsAtFault Flood input line kind = IsBadAt input line kind
IsAtFault Check input line kind = IsBadAt input line kind
IsAtFault Format input line kind = IsBadAt input line kind
IsAtFault (Traffic graph) input line kind = IsBadAt input line kind

-- it is so by each of its nets, which differ in nothing but the tables of their trees
abbrev pub MustStop : Schedule → List ℕ → ℕ → Type 0
MustStop schedule input line = HasNet input × ((net : NetParts) → IsNetOf input net → StopsAtLine net [] (turns_first schedule net) line)

abbrev pub MustBeRefused : Query → List ℕ → ℕ → Fault → Type 0
MustBeRefused (Run schedule shown) input line kind = IsBadAt input line kind ⊎ ((kind ≡ BadTurn) × MustStop schedule input line)
MustBeRefused (Hierarchy shown) input line kind = IsBadAt input line kind
MustBeRefused Flood input line kind = IsBadAt input line kind
MustBeRefused Check input line kind = IsBadAt input line kind
MustBeRefused Format input line kind = IsBadAt input line kind
MustBeRefused (Traffic graph) input line kind = IsBadAt input line kind

-- ALL THAT IS WANTED CAN BE DONE: there is a net, and by each the turns of a schedule are permitted
abbrev pub CanBeDone : Query → List ℕ → Type 0
CanBeDone (Run schedule shown) input = HasNet input × ((net : NetParts) → IsNetOf input net → ArePermitted net (turns_first schedule net))
CanBeDone (Hierarchy shown) input = HasNet input
CanBeDone Flood input = HasNet input
CanBeDone Check input = HasNet input
CanBeDone Format input = HasNet input
CanBeDone (Traffic graph) input = HasNet input

-- a schedule that stops, as a fault of its document
abbrev pub fault_of_turn : ReplayFault → InputFault
fault_of_turn (turns.BadTurn line) = inputs.Bad line BadTurn
fault_of_turn turns.NoMemory = inputs.NoMemory
