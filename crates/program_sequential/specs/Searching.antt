-- How the code answers to `patterns`; no promise to a caller speaks of it.
use Rattle.std.specs.Prelude.{◌≡◌, ◌≤◌, ℕ, Bool, true, List, length, Result, Ok, Err}
use Rattle.base_devices.specs.Whole.{Gave}
use Rattle.net_model.specs.Parts.{EntryParts, NetParts}
use Rattle.net_turns.specs.Network.{IsLegal, IsDrainedBy}
use Rattle.output_patterns.specs.Parts.{PatternParts}
use Rattle.output_patterns.specs.Found.{found_text}
use Rattle.program_sequential.specs.declared.unanswered.Unanswered.{Unanswered}
use Rattle.program_sequential.specs.declared.unanswered.Unanswered.TheVariants as whys
use Rattle.program_sequential.specs.declared.words.Schedule.TheVariants.{Walk}
use Rattle.program_sequential.specs.declared.words.Wanted.TheVariants.{Patterns}
use Rattle.program_sequential.specs.Runs.{GoesBy, received_in}
use Rattle.program_sequential.specs.Patterns.{IsPatternsOf, IsInputAtFault, IsPatternAtFault}
use Rattle.program_sequential.specs.Answers.{IsPrintedBy, HasFaultFor, GaveBadPatternFor}
use Rattle.program_sequential.specs.Showing.{PrintedParts}

-- the text is what patterns find in the walk of a net, and this is its journal
pub record IsSearched (net : NetParts) (patterns : List PatternParts) (text : List ℕ) (journal : List EntryParts) : Type 0 where
  pub goes_by : GoesBy Walk net journal
  pub legal : IsLegal net journal
  pub drained : IsDrainedBy net journal
  pub printed : text ≡ found_text net.clients (received_in net journal) patterns

-- the answer to an input
abbrev pub SearchesInput : List ℕ → Result PrintedParts Unanswered → Type 0
SearchesInput input (Ok p) = IsPatternsOf input p.text p.journal
SearchesInput input (Err (whys.BadInput line kind)) = IsInputAtFault input line kind
SearchesInput input (Err (whys.BadPattern line kind)) = IsPatternAtFault input line kind
SearchesInput input (Err (whys.Refuted line kind)) = ⊥
SearchesInput input (Err (whys.Unknown kind)) = ⊥
SearchesInput input (Err whys.ReadFault) = ⊥
SearchesInput input (Err whys.NoMemory) = Unit {0}

-- the answer to what a source gave
abbrev pub SearchesSource : List ℕ → List ℕ → Bool → Result PrintedParts Unanswered → Type 0
SearchesSource given now ended (Ok p) = IsPrintedBy Patterns given now ended p.text p.journal
SearchesSource given now ended (Err (whys.BadInput line kind)) = HasFaultFor Patterns given now ended line kind
SearchesSource given now ended (Err (whys.BadPattern line kind)) = GaveBadPatternFor Patterns given now ended line kind
SearchesSource given now ended (Err (whys.Refuted line kind)) = ⊥
SearchesSource given now ended (Err (whys.Unknown kind)) = ⊥
SearchesSource given now ended (Err whys.ReadFault) = (ended ≡ true → ⊥) × Gave given now (λ bytes. length bytes ≤ 4194304)
SearchesSource given now ended (Err whys.NoMemory) = Unit {0}
