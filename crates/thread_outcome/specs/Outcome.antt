-- Defines the cells of a net from phase to phase of a run.
use Rattle.std.specs.Prelude.{◌≡◌, ◌<◌, ◌⊎◌, ℕ, List, length, map, Some, slice_get}
use Rattle.law_machine.specs.Journals.{Cell}
use Rattle.law_phases.specs.Trees.{JournalEntry}
use Rattle.law_phases.specs.Cells.{IsBetween}
use Rattle.net_model.specs.Real.{real}
use Rattle.net_model.specs.Parts.{NetParts, EntryParts}
use Rattle.net_model.specs.Nets.{phased_net, of_clients}
use Rattle.net_model.specs.Sound.{IsSound}
use Rattle.net_journal.specs.Merging.{IsMergeOf, journals_in}
use Rattle.net_turns.specs.Network.{IsLegal, IsDrainedBy, moment_by, refused_by, received_by}
use Rattle.server_core.specs.Core.{CoreParts}
use Rattle.sequential_network.specs.Kept.{AreServers}
use Rattle.thread_cell.specs.Cell.{CellParts, IsKept, machine_in}
use Rattle.thread_cell.specs.Coming.{HaveCommand}
use Rattle.thread_cell.specs.Entered.{RepresentCells, IsEntered, state_of}
use Rattle.thread_cell.specs.Together.{AreTogether, AreBegun, IsFinished, cell_roots}
use Rattle.thread_cell.specs.InHand.{AreAllInHand}
use Rattle.net_journal.specs.declared.ran.Ran.{Ran}

-- the journals of all servers
abbrev pub journals_by : List CellParts → List (List EntryParts)
journals_by cells = map (λ cell. cell.journal) cells

-- a cell has done nothing since it entered its phase
pub record IsAtStart (cell : CellParts) : Type 0 where
  pub core : cell.root.core.value ≡ cell.held.core
  pub links : cell.root.links.value ≡ cell.held.links
  pub before : cell.root.before.value.entries ≡ cell.journal

abbrev pub AreAtStart : List CellParts → Type 0
AreAtStart cells = (k : ℕ) (cell : CellParts) → slice_get cells k ≡ Some cell → IsAtStart cell

-- THE CELLS STAND BETWEEN TWO PHASES: the entries of all journals are a legal run from the opening to the state that the cells represent, at which all
-- links are empty, nothing is pending, and all commands of the phases below the next are executed; the next is a later one, or nothing was done
pub record StandBetween (net : NetParts) (last next : ℕ) (cells : List CellParts) : Type 0 where
  pub ends : ℕ → Cell (machine_in net last)
  pub stand : RepresentCells net last cells ends
  pub sofar : List JournalEntry
  pub between : IsBetween real (phased_net net) (state_of net last ends) last next sofar (journals_in (journals_by cells))
  pub phase : (last < next) ⊎ ((last ≡ next) × AreAtStart cells)

-- each keeps what its type says
abbrev pub AreKept : List CellParts → Type 0
AreKept cells = (k : ℕ) (cell : CellParts) → slice_get cells k ≡ Some cell → IsKept cell.root.net.value cell.root cell.journal cell.held

-- all cells of a net are in hand, in one phase
pub record AreInHand (net : NetParts) (phase : ℕ) (cells : List CellParts) : Type 0 where
  pub sound : IsSound net
  pub together : AreTogether net phase (cell_roots cells)
  pub kept : AreKept cells

-- A PHASE HAS BEGUN: cells that stood before it have entered it, and all of them are in hand
pub record IsPhaseBegun (net : NetParts) (last phase : ℕ) (old started now : List CellParts) : Type 0 where
  pub hand : AreInHand net last old
  pub stood : StandBetween net last phase old
  pub enters : IsEntered net last phase (state_of net last stood.ends) started
  pub roots_stay : cell_roots now ≡ cell_roots started
  pub reached : (begun : ℕ → Cell (machine_in net phase)) → AreBegun net phase now begun → AreAllInHand net phase now begun

-- A PHASE IS DONE: cells that stood before it, one with a command of it, have entered it, and it is ended with all of them in hand
pub record IsPhaseDone (net : NetParts) (last phase : ℕ) (old started now : List CellParts) : Type 0 where
  pub hand : AreInHand net last old
  pub stood : StandBetween net last phase old
  pub some : HaveCommand old phase
  pub enters : IsEntered net last phase (state_of net last stood.ends) started
  pub journals : journals_by started ≡ journals_by old
  pub starts : AreAtStart started
  pub roots_stay : cell_roots now ≡ cell_roots started
  pub kept : AreKept now
  pub finished : (begun : ℕ → Cell (machine_in net phase)) → AreBegun net phase now begun → IsFinished net phase now begun

-- the cores of cells
abbrev pub cores_of : List CellParts → List CoreParts
cores_of cells = map (λ cell. cell.held.core) cells

-- cores are those of the servers at the end of a journal, on the tree of some phase
pub record IsEndOf (net : NetParts) (cores : List CoreParts) (journal : List EntryParts) : Type 0 where
  pub sound : IsSound net
  pub phase : ℕ
  pub cores_are : AreServers net phase (moment_by net journal).state cores

-- THE WHOLE RUN: the merge of all journals is a legal run of the net, and at its end all commands are executed, all links are empty and nothing is pending
pub record IsWholeMerge (net : NetParts) (cells : List CellParts) (merged : List EntryParts) : Type 0 where
  pub merge : IsMergeOf (journals_by cells) merged
  pub legal : IsLegal net merged
  pub drained : IsDrainedBy net merged
  pub ends : IsEndOf net (cores_of cells) merged

-- what a whole run left: its journal, by stamp and then by server, and what each client has by its end
pub record IsRanBy (net : NetParts) (cells : List CellParts) (ran : Ran) : Type 0 where
  pub whole : IsWholeMerge net cells ran.journal.entries
  pub refused : ran.refused.items ≡ of_clients net (refused_by net ran.journal.entries)
  pub received : ran.received.items ≡ of_clients net (received_by net ran.journal.entries)
