-- Defines how the cells of all servers enter a later phase.
use Rattle.std.specs.Prelude.{◌≡◌, ◌<◌, ℕ, suc, max, List, [], ◌∷◌, length, Some, slice_get}
use Rattle.law_machine.specs.Journals.{Cell, network_of}
use Rattle.law_phases.specs.Trees.{State, off, net_at, at_phase}
use Rattle.law_phases.specs.Cells.{entered}
use Rattle.net_model.specs.Real.{real}
use Rattle.net_model.specs.Parts.{NetParts}
use Rattle.net_model.specs.Nets.{phased_net}
use Rattle.thread_cell.specs.Cell.{CellParts, RepresentsCell, HasEntered, HasNoneBelow, machine_in}
use Rattle.thread_cell.specs.Together.{AreTogether, AreBegun, cell_roots}

-- a cell with the net, the server, the publisher and the journal of an old one, which keeps its entries or lets them pass as before
pub record IsSameCell (old new : CellParts) : Type 0 where
  pub net : new.root.net ≡ old.root.net
  pub server : new.root.server ≡ old.root.server
  pub keeps : new.root.keeps ≡ old.root.keeps
  pub viewer : new.root.viewer ≡ old.root.viewer
  pub journal : new.journal ≡ old.journal

-- so it is with all cells
pub record AreSameCells (old new : List CellParts) : Type 0 where
  pub long : length new ≡ length old
  pub each : (k : ℕ) (a b : CellParts) → slice_get old k ≡ Some a → slice_get new k ≡ Some b → IsSameCell a b

-- the greatest clock of cells
abbrev pub greatest_cell_clock : List CellParts → ℕ
greatest_cell_clock [] = 0
greatest_cell_clock (cell ∷ cells) = max cell.held.core.clock (greatest_cell_clock cells)

-- no client has a command of a phase below this one left
abbrev pub AreThrough : ℕ → List CellParts → Type 0
AreThrough phase cells = (k : ℕ) (cell : CellParts) → slice_get cells k ≡ Some cell → HasNoneBelow phase cell.held.core.clients

-- nothing is pending at a server
abbrev pub AreCalm : List CellParts → Type 0
AreCalm cells = (k : ℕ) (cell : CellParts) → slice_get cells k ≡ Some cell → cell.held.core.pending ≡ []

-- cells in hand represent cells of the laws of journals; of who is no server nothing was put or taken
pub record RepresentCells (net : NetParts) (phase : ℕ) (cells : List CellParts) (ends : ℕ → Cell (machine_in net phase)) : Type 0 where
  pub stand : (k : ℕ) (cell : CellParts) → slice_get cells k ≡ Some cell → RepresentsCell net phase cell.held.core cell.held.links.items (ends (suc k))
  pub others : (server : ℕ) → ((k : ℕ) → server ≡ suc k → k < length cells → ⊥)
      → ((link : ℕ) → ((ends server).put link ≡ []) × ((ends server).took link ≡ []))

-- the state of the network of such cells, whatever the tree
abbrev pub state_of : (net : NetParts) (phase : ℕ) → (ℕ → Cell (machine_in net phase)) → State real
state_of net phase ends = off real (net_at real (phased_net net) phase) (network_of (machine_in net phase) ends)

-- cells that have just entered a phase represent the state in which it is entered, as its first command finds it
pub record IsEntered (net : NetParts) (last phase : ℕ) (end : State real) (cells : List CellParts) : Type 0 where
  pub begun : ℕ → Cell (machine_in net phase)
  pub stand : AreBegun net phase cells begun
  pub enters : at_phase real (phased_net net) phase (entered real (phased_net net) last phase end) ≡ network_of (machine_in net phase) begun

-- ALL CELLS HAVE ENTERED A LATER PHASE: they are together in it, and whatever state they represented, they now represent that in which the phase is
-- entered: with raised clocks where the tree stays, else on the new tree, with new lanes, and with held and installed sets by what flows
pub record AreEntered (net : NetParts) (last phase : ℕ) (old new : List CellParts) : Type 0 where
  pub together : AreTogether net phase (cell_roots new)
  pub each : (k : ℕ) (a b : CellParts) → slice_get old k ≡ Some a → slice_get new k ≡ Some b → HasEntered a.root phase b
  pub stand : (ends : ℕ → Cell (machine_in net last)) → RepresentCells net last old ends → IsEntered net last phase (state_of net last ends) new
