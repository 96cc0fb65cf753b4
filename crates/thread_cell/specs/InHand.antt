-- Defines the cells of all servers in hand within a phase.
use Rattle.std.specs.Prelude.{◌≡◌, ◌<◌, ℕ, suc, List, length, Some, slice_get}
use Rattle.law_machine.specs.Machine.{Entry}
use Rattle.law_machine.specs.Journals.{Cell, IsPrefix, IsPhaseInHand}
use Rattle.net_model.specs.Parts.{NetParts}
use Rattle.thread_cell.specs.declared.link.Link.{Link}
use Rattle.thread_cell.specs.Cell.{CellParts, RepresentsCell, machine_in}
use Rattle.thread_cell.specs.Together.{Sight, journals, root_links}

-- what is taken on the lane from the neighbour at a place is the beginning of what was put on it
abbrev pub IsReceivedInOrder : List Sight → ℕ → ℕ → Type 0
IsReceivedInOrder all k p = (s t : Sight) (y : Link) (i : ℕ) → slice_get all k ≡ Some s → slice_get (root_links s.root) p ≡ Some y
    → slice_get all i ≡ Some t → y.neighbour ≡ suc i
    → IsPrefix (s.took y.neighbour) (t.put s.root.server)

-- so it is on all lanes
abbrev pub AreReceivedInOrder : List Sight → Type 0
AreReceivedInOrder all = (k p : ℕ) → k < length all → IsReceivedInOrder all k p

-- ALL CELLS ARE IN HAND within the phase: what each took of another is the beginning of what that put, and their journals have a merge
pub record AreAllInHand (net : NetParts) (phase : ℕ) (cells : List CellParts) (begun : ℕ → Cell (machine_in net phase)) : Type 0 where
  pub ends : ℕ → Cell (machine_in net phase)
  pub merged : List (Entry (machine_in net phase))
  pub in_hand : IsPhaseInHand (machine_in net phase) phase begun (journals net phase cells) merged ends
  pub stand : (k : ℕ) (cell : CellParts) → slice_get cells k ≡ Some cell → RepresentsCell net phase cell.held.core cell.held.links.items (ends (suc k))
  pub others : (server : ℕ) → ((k : ℕ) → server ≡ suc k → k < length cells → ⊥) → ends server ≡ begun server
