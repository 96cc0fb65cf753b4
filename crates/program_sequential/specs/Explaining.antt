-- How the code answers to `explain`; no promise to a caller speaks of it.
use Rattle.std.specs.Prelude.{◌≡◌, ◌≤◌, ℕ, Bool, true, List, [], length, Result, Ok, Err}
use Rattle.base_devices.specs.Whole.{Gave}
use Rattle.net_model.specs.Parts.{EntryParts, NetParts}
use Rattle.net_turns.specs.Network.{IsLegal, IsDrainedBy}
use Rattle.document_reader.specs.Net.{IsBadAt}
use Rattle.output_explain.specs.declared.answer.Explanation.{Explanation}
use Rattle.output_explain.specs.Asked.{Question, IsNobody}
use Rattle.output_explain.specs.Explained.{IsAnswer}
use Rattle.program_sequential.specs.declared.subject.Subject.{Subject}
use Rattle.program_sequential.specs.declared.unknown.Unknown.TheVariants as unknowns
use Rattle.program_sequential.specs.declared.unanswered.Unanswered.{Unanswered}
use Rattle.program_sequential.specs.declared.unanswered.Unanswered.TheVariants as whys
use Rattle.program_sequential.specs.declared.words.Schedule.TheVariants.{Walk}
use Rattle.program_sequential.specs.declared.words.Wanted.TheVariants.{Explain}
use Rattle.program_sequential.specs.Runs.{GoesBy}
use Rattle.program_sequential.specs.Explanations.{IsUnknownIn, told_text}
use Rattle.program_sequential.specs.Outlooks.{IsExplainedOf, IsListOf, IsNotThere}
use Rattle.program_sequential.specs.Answers.{IsPrintedBy, HasFaultFor, GaveUnknownFor}
use Rattle.program_sequential.specs.Showing.{PrintedParts}

-- the text tells of an explanation and of the walk of a net, and this is its journal
pub record IsTold (net : NetParts) (e : Explanation) (text : List ℕ) (journal : List EntryParts) : Type 0 where
  pub goes_by : GoesBy Walk net journal
  pub legal : IsLegal net journal
  pub drained : IsDrainedBy net journal
  pub printed : text ≡ told_text net journal e

-- the answer by a net
abbrev pub ExplainsNet : Question → NetParts → Result PrintedParts Unanswered → Type 0
ExplainsNet question net (Ok p) = (e : Explanation) × IsAnswer net question.client question.publisher question.ordinal e × IsTold net e p.text p.journal
ExplainsNet question net (Err (whys.BadInput line kind)) = ⊥
ExplainsNet question net (Err (whys.BadPattern line kind)) = ⊥
ExplainsNet question net (Err (whys.Refuted line kind)) = ⊥
ExplainsNet question net (Err (whys.Unknown kind)) = IsUnknownIn net question kind
ExplainsNet question net (Err whys.ReadFault) = ⊥
ExplainsNet question net (Err whys.NoMemory) = Unit {0}

-- the list of what comes to a client, by a net
abbrev pub ListsNet : List ℕ → NetParts → Result PrintedParts Unanswered → Type 0
ListsNet name net (Ok p) = IsListOf name net p.text × (p.journal ≡ [])
ListsNet name net (Err (whys.BadInput line kind)) = ⊥
ListsNet name net (Err (whys.BadPattern line kind)) = ⊥
ListsNet name net (Err (whys.Refuted line kind)) = ⊥
ListsNet name net (Err (whys.Unknown kind)) = (kind ≡ unknowns.Client) × IsNobody net name
ListsNet name net (Err whys.ReadFault) = ⊥
ListsNet name net (Err whys.NoMemory) = Unit {0}

-- the answer to an input
abbrev pub ExplainsInput : Subject → List ℕ → Result PrintedParts Unanswered → Type 0
ExplainsInput subject input (Ok p) = IsExplainedOf subject input p.text p.journal
ExplainsInput subject input (Err (whys.BadInput line kind)) = IsBadAt input line kind
ExplainsInput subject input (Err (whys.BadPattern line kind)) = ⊥
ExplainsInput subject input (Err (whys.Refuted line kind)) = ⊥
ExplainsInput subject input (Err (whys.Unknown kind)) = IsNotThere subject input kind
ExplainsInput subject input (Err whys.ReadFault) = ⊥
ExplainsInput subject input (Err whys.NoMemory) = Unit {0}

-- the answer to what a source gave
abbrev pub ExplainsSource : Subject → List ℕ → List ℕ → Bool → Result PrintedParts Unanswered → Type 0
ExplainsSource subject given now ended (Ok p) = IsPrintedBy (Explain subject) given now ended p.text p.journal
ExplainsSource subject given now ended (Err (whys.BadInput line kind)) = HasFaultFor (Explain subject) given now ended line kind
ExplainsSource subject given now ended (Err (whys.BadPattern line kind)) = ⊥
ExplainsSource subject given now ended (Err (whys.Refuted line kind)) = ⊥
ExplainsSource subject given now ended (Err (whys.Unknown kind)) = GaveUnknownFor (Explain subject) given now ended kind
ExplainsSource subject given now ended (Err whys.ReadFault) = (ended ≡ true → ⊥) × Gave given now (λ bytes. length bytes ≤ 4194304)
ExplainsSource subject given now ended (Err whys.NoMemory) = Unit {0}
