-- What the whole program does, by its arguments and the three standard streams.
use Rattle.std.specs.Prelude.{◌≡◌, ◌≢◌, ◌≤◌, ◌<◌, ◌⊎◌, ℕ, Bool, true, false, List, [], ◌∷◌, length, map, Option, Result, Ok, Err}
use Rattle.std.specs.Io.KnownBytes.{Appends, Consumes, IsAtEnd}
use Rattle.std.specs.IoError.{error_kind}
use Rattle.std.specs.declared.io.Error.{Error}
use Rattle.std.specs.declared.io.ErrorKind.{ErrorKind}
use Rattle.std.specs.declared.io.ErrorKind.TheVariants as kinds
use Rattle.std.specs.declared.string.String.{String}
use Rattle.std.specs.declared.vec.IntoIter.{IntoIter}
use Rattle.std.specs.String.{string_bytes}
use Rattle.std.specs.Vec.Iter.{into_iter_items}
use Rattle.base_devices.specs.Asked.{AnswersParts, blank, write_faults}
use Rattle.base_devices.specs.Whole.{TookPart}
use Rattle.net_model.specs.Parts.{EntryParts}
use Rattle.program_sequential.specs.declared.status.Status.{Status}
use Rattle.program_sequential.specs.declared.status.Status.TheVariants as statuses
use Rattle.program_sequential.specs.declared.words.Wanted.{Wanted}
use Rattle.program_sequential.specs.Words.{wanted_by}
use Rattle.program_sequential.specs.Answers.{reads, most_read, CanAnswer, IsReadOut}
use Rattle.program_sequential.specs.Outcomes.{IsOutcome}

-- the words of a command line: all arguments behind the program's name
abbrev pub words_behind : List (List ℕ) → List (List ℕ)
words_behind [] = []
words_behind (name ∷ words) = words

-- the words that arguments give
abbrev pub GivesWords : {Z : Type 0} → Result (IntoIter (String Z) Z) Error → List (List ℕ) → Type 0
GivesWords (Ok arguments) words = words ≡ words_behind (map string_bytes (into_iter_items arguments))
GivesWords (Err error) words = ⊥

-- arguments that can't be read are outside of all words, unless memory was refused for them
abbrev pub unread_status : ErrorKind → Status
unread_status kinds.OutOfMemory = statuses.NoMemory
unread_status kind = statuses.Usage

-- there are no words, and this status tells why; memory may be refused for those that arguments give
abbrev pub IsUnread : {Z : Type 0} → Result (IntoIter (String Z) Z) Error → Status → Type 0
IsUnread (Ok arguments) status = status ≡ statuses.NoMemory
IsUnread (Err error) status = status ≡ unread_status (error_kind error)

-- HOW A CALL ENDS over a reader and a writer: what it prints and tells by what the reader gave and the writer took, and that a fault of either is told
-- and none is invented; `before` and `after` are what the reader has left, where it knows that, and `held` and `holds` what the writer holds
pub record IsCall {D V : Type 0} (wanted : Option Wanted) (input read : D) (answers : AnswersParts) (ended : Bool) (before after : Option (List ℕ))
    (output written : V) (taken : AnswersParts) (held holds : Option (List ℕ)) (status : Status) (journal : List EntryParts) : Type 0 where
  pub outcome : IsOutcome wanted [] answers.bytes ended [] taken.bytes status journal
  pub sure : status ≢ statuses.ReadFault → status ≢ statuses.NoMemory → answers.errors ≡ 0
  pub sure_written : status ≢ statuses.WriteFault → write_faults taken ≡ 0
  pub unread : reads wanted ≡ false → (read ≡ input) × (answers ≡ blank)
  pub at_most : length answers.bytes ≤ most_read wanted
  pub told : Consumes before after answers.bytes
  pub end : ended ≡ true → IsAtEnd after
  pub read_out : reads wanted ≡ true → answers.errors ≡ 0 → IsReadOut (most_read wanted) [] answers.bytes ended ⊎ (status ≡ statuses.NoMemory)
  pub kept : Appends held holds taken.bytes
  pub unwritten : status ≢ statuses.Done → status ≢ statuses.WriteFault → (written ≡ output) × (taken ≡ blank)
  pub read_fault : status ≡ statuses.ReadFault → 0 < answers.errors
  pub write_fault : status ≡ statuses.WriteFault → 0 < write_faults taken
  pub complete : CanAnswer wanted [] answers.bytes ended → write_faults taken ≡ 0 → (status ≡ statuses.Done) ⊎ (status ≡ statuses.NoMemory)

-- nothing was read and nothing written
pub record IsUncalled {D V : Type 0} (input read : D) (answers : AnswersParts) (output written : V) (taken : AnswersParts) : Type 0 where
  pub unread : (read ≡ input) × (answers ≡ blank)
  pub unwritten : (written ≡ output) × (taken ≡ blank)

-- WHAT IS DONE by arguments: the call with their words; or nothing, where there are none
abbrev pub IsDone : {Z D V : Type 0} → Result (IntoIter (String Z) Z) Error → D → D → AnswersParts → Bool → Option (List ℕ) → Option (List ℕ)
    → V → V → AnswersParts → Option (List ℕ) → Option (List ℕ) → Status → List EntryParts → Type 0
IsDone arguments input read answers ended before after output written taken held holds status journal =
    ((words : List (List ℕ)) × GivesWords arguments words
    × IsCall (wanted_by words) input read answers ended before after output written taken held holds status journal)
    ⊎ (IsUnread arguments status × IsUncalled input read answers output written taken)

-- STANDARD ERROR TOOK A TEXT; or a proper front of it, as a write failed
abbrev pub Tells : List ℕ → AnswersParts → Type 0
Tells text told = (told.bytes ≡ text) ⊎ ((0 < write_faults told) × TookPart [] told.bytes text)
