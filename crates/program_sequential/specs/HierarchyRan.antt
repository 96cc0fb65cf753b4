-- How the code makes the walk of a hierarchy; no promise to a caller speaks of it.
use Rattle.std.specs.Prelude.{◌≡◌, ℕ, List, []}
use Rattle.net_model.specs.Parts.{NetParts, EntryParts}
use Rattle.net_model.specs.Nets.{of_clients}
use Rattle.hierarchy_turns.specs.Network.{IsLegal, IsDrainedBy, journal_in, refused_by, received_by}
use Rattle.hierarchy_turns.specs.Walked.{walk_after}
use Rattle.net_journal.specs.declared.ran.Ran.{Ran}
use Rattle.program_sequential.specs.declared.words.Shown.{Shown}
use Rattle.program_sequential.specs.Hierarchy.{hierarchy_text}

-- a journal is the walk of a net's hierarchy, legal and drained
pub record IsHierarchyWalk (net : NetParts) (journal : List EntryParts) : Type 0 where
  pub legal : IsLegal net journal
  pub drained : IsDrainedBy net journal
  pub walk : journal_in net journal ≡ walk_after net []

-- what the walk left
pub record IsHierarchyRan (net : NetParts) (ran : Ran) : Type 0 where
  pub walked : IsHierarchyWalk net ran.journal.entries
  pub refused : ran.refused.items ≡ of_clients net (refused_by net ran.journal.entries)
  pub received : ran.received.items ≡ of_clients net (received_by net ran.journal.entries)

-- the text and the journal of the walk
pub record IsHierarchyShown (shown : Shown) (net : NetParts) (text : List ℕ) (journal : List EntryParts) : Type 0 where
  pub walked : IsHierarchyWalk net journal
  pub printed : text ≡ hierarchy_text shown net journal
