-- How the code makes a run; no promise to a caller speaks of it.
use Rattle.std.specs.Prelude.{◌≡◌, ℕ, List, []}
use Rattle.net_model.specs.declared.turn.Turn.{Turn}
use Rattle.net_model.specs.Parts.{NetParts, EntryParts}
use Rattle.net_turns.specs.Network.{NetworkParts, IsLegal, IsDrainedBy}
use Rattle.net_journal.specs.declared.ran.Ran.{Ran}
use Rattle.program_sequential.specs.declared.words.Schedule.{Schedule}
use Rattle.program_sequential.specs.declared.words.Query.{Query}
use Rattle.program_sequential.specs.declared.words.Query.TheVariants.{Run, Hierarchy, Flood, Check, Format, Traffic}
use Rattle.program_sequential.specs.declared.words.Shown.{Shown}
use Rattle.program_sequential.specs.Printed.{run_text}
use Rattle.program_sequential.specs.Runs.{turns_first, GoesBy, refused_in, received_in}
use Rattle.program_sequential.specs.Faults.{ArePermitted}

-- the turns that must be permitted for what is wanted of a net
abbrev pub turns_for : Query → NetParts → List (ℕ × Turn)
turns_for (Run schedule shown) net = turns_first schedule net
turns_for (Hierarchy shown) net = []
turns_for Flood net = []
turns_for Check net = []
turns_for Format net = []
turns_for (Traffic graph) net = []

-- a network of the net went by the schedule, whose turns were permitted, and is drained
pub record IsRunThrough (schedule : Schedule) (net : NetParts) (network : NetworkParts) : Type 0 where
  pub same : network.net ≡ net
  pub permitted : ArePermitted net (turns_first schedule net)
  pub goes_by : GoesBy schedule net network.journal
  pub drained : IsDrainedBy net network.journal

-- what a legal run leaves
pub record IsCollected (net : NetParts) (ran : Ran) : Type 0 where
  pub legal : IsLegal net ran.journal.entries
  pub refused : ran.refused.items ≡ refused_in net ran.journal.entries
  pub received : ran.received.items ≡ received_in net ran.journal.entries

-- what such a run left
pub record IsRan (schedule : Schedule) (net : NetParts) (ran : Ran) : Type 0 where
  pub permitted : ArePermitted net (turns_first schedule net)
  pub goes_by : GoesBy schedule net ran.journal.entries
  pub drained : IsDrainedBy net ran.journal.entries
  pub collected : IsCollected net ran

-- the text and the journal of a run by a schedule
pub record IsShown (schedule : Schedule) (shown : Shown) (net : NetParts) (text : List ℕ) (journal : List EntryParts) : Type 0 where
  pub goes_by : GoesBy schedule net journal
  pub legal : IsLegal net journal
  pub drained : IsDrainedBy net journal
  pub printed : text ≡ run_text shown net journal
