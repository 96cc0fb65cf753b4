-- Defines when the cells of all servers of a net are together in one phase.
use Rattle.std.specs.Prelude.{◌≡◌, ◌⊎◌, ◌<◌, ℕ, zero, suc, Bool, List, [], map, length, drop, Some, slice_get, slice_index_or}
use mathlib.Core.List.{IsPrefix}
use Rattle.base.specs.Sets.{Has}
use Rattle.law_machine.specs.Machine.{Entry}
use Rattle.law_machine.specs.Journals.{Cell, IsPhaseInHand, IsPhaseEnded}
use Rattle.law_phases.specs.Trees.{net_at, entries_on}
use Rattle.law_routing.specs.Routing.{NetEntry}
use Rattle.net_model.specs.Real.{real}
use Rattle.thread_cell.specs.Acted.{Represented}
use Rattle.net_model.specs.Parts.{NetParts, EntryParts}
use Rattle.net_model.specs.Meaning.{journal_of}
use Rattle.net_model.specs.Nets.{phased_net, first_tree}
use Rattle.server_core.specs.Core.{CoreParts}
use Rattle.server_core.specs.Step.{last_stamp}
use Rattle.thread_cell.specs.declared.link.Link.{Link}
use Rattle.thread_cell.specs.declared.held.Root.{Root}
use Rattle.thread_cell.specs.Links.{At, Both, IsOneLane, IsNeighbour}
use Rattle.thread_cell.specs.LaneMessages.{put_for, taken_from}
use Rattle.thread_cell.specs.Lanes.{AreEnds}
use Rattle.thread_cell.specs.Cell.{CellParts, RepresentsCell, machine_in, count_before}
use Rattle.thread_cell.specs.Turns.{HasCommand}

-- the lanes with which a cell entered its phase
abbrev pub root_links : Root → List Link
root_links root = root.links.value.items

abbrev pub cell_roots : List CellParts → List Root
cell_roots cells = map (λ cell. cell.root) cells

-- of each cell whether its journal keeps its entries
abbrev pub keepings : List CellParts → List Bool
keepings cells = map (λ root. root.keeps) (cell_roots cells)

-- THE CELLS OF ALL SERVERS of a net, by server, in one phase, with both ends of each of their lanes among them
pub record AreTogether (net : NetParts) (phase : ℕ) (roots : List Root) : Type 0 where
  pub all : length roots ≡ (first_tree net.trees).count
  pub nets : (k : ℕ) (root : Root) → slice_get roots k ≡ Some root → root.net.value ≡ net
  pub numbers : (k : ℕ) (root : Root) → slice_get roots k ≡ Some root → root.server ≡ suc k
  pub phases : (k : ℕ) (root : Root) → slice_get roots k ≡ Some root → root.phase ≡ phase
  pub lanes : AreEnds (map root_links roots)

-- what is seen of a cell: its root, its journal, its core, and what it put for each neighbour and took from it
pub record Sight : Type 0 where
  pub root : Root
  pub journal : List EntryParts
  pub core : CoreParts
  pub put : ℕ → List Represented
  pub took : ℕ → List Represented

abbrev pub sight : CellParts → Sight
sight cell = record {
  root = cell.root;
  journal = cell.journal;
  core = cell.held.core;
  put = λ to. put_for cell.root.net.value cell.held.links.items to;
  took = λ from. taken_from cell.root.net.value cell.held.links.items from;
}

abbrev pub sights : List CellParts → List Sight
sights cells = map sight cells

-- its journal goes on: it begins with what it was
abbrev pub HasGrown : CellParts → CellParts → Type 0
HasGrown old new = IsPrefix old.journal new.journal

-- so do all of them
abbrev pub HaveGrown : List CellParts → List CellParts → Type 0
HaveGrown old new = Both HasGrown old new

-- all that was put on the lane from the neighbour at a place is taken
abbrev pub IsTakenUp : List Sight → ℕ → ℕ → Type 0
IsTakenUp all k p = (s t : Sight) (y : Link) (i : ℕ) → slice_get all k ≡ Some s → slice_get (root_links s.root) p ≡ Some y
    → slice_get all i ≡ Some t → y.neighbour ≡ suc i
    → s.took y.neighbour ≡ t.put s.root.server

-- no client of a cell has a command of its phase left
abbrev pub HasNoCommand : CoreParts → ℕ → Type 0
HasNoCommand core phase = (client : ℕ) → HasCommand core client phase → ⊥

-- one server has nothing left to do: its lanes are empty, nothing is pending, and no command of the phase is left
pub record IsCellDone (all : List Sight) (k : ℕ) : Type 0 where
  pub taken : (p : ℕ) → IsTakenUp all k p
  pub calm : (s : Sight) → slice_get all k ≡ Some s → s.core.pending ≡ []
  pub through : (s : Sight) → slice_get all k ≡ Some s → HasNoCommand s.core s.root.phase

-- no server has
abbrev pub AreDone : List Sight → Type 0
AreDone all = (k : ℕ) → k < length all → IsCellDone all k

-- the lane from one server at a place to another at a place
pub record IsLaneOf (cells : List CellParts) (giver to taker from : ℕ) : Type 0 where
  pub within : giver < length cells
  pub nets : (a b : CellParts) → slice_get cells giver ≡ Some a → slice_get cells taker ≡ Some b → a.root.net.value ≡ b.root.net.value
  pub apart : giver ≡ taker → ⊥
  pub lane : (a b : CellParts) → slice_get cells giver ≡ Some a → slice_get cells taker ≡ Some b → At IsOneLane to (root_links a.root) from (root_links b.root)
  pub gives : (a b : CellParts) → slice_get cells giver ≡ Some a → slice_get cells taker ≡ Some b → IsNeighbour to b.root.server (root_links a.root)
  pub takes : (b : CellParts) → slice_get cells taker ≡ Some b → IsNeighbour from (suc giver) (root_links b.root)

-- the value of a server among those of the servers 1, 2 and so on
abbrev pub of_server : {X : Type 0} → X → List X → ℕ → X
of_server none xs zero = none
of_server none xs (suc k) = slice_index_or xs k none

-- the entries of a cell since it entered its phase
abbrev pub phase_entries : (net : NetParts) (phase : ℕ) → CellParts → List (NetEntry real (net_at real (phased_net net) phase))
phase_entries net phase cell = entries_on real (net_at real (phased_net net) phase) (journal_of (drop (count_before cell.root) cell.journal))

abbrev pub journals : (net : NetParts) (phase : ℕ) → List CellParts → ℕ → List (NetEntry real (net_at real (phased_net net) phase))
journals net phase cells = of_server [] (map (phase_entries net phase) cells)

-- cells of the laws of journals that were in hand as the phase was entered; of who is no server nothing was put or taken
pub record AreBegun (net : NetParts) (phase : ℕ) (cells : List CellParts) (begun : ℕ → Cell (machine_in net phase)) : Type 0 where
  pub stand : (k : ℕ) (cell : CellParts) → slice_get cells k ≡ Some cell → RepresentsCell net phase cell.root.core.value (root_links cell.root) (begun (suc k))
  pub others : (server : ℕ) → ((k : ℕ) → server ≡ suc k → k < length cells → ⊥)
      → ((link : ℕ) → ((begun server).put link ≡ []) × ((begun server).took link ≡ []))

-- WITH ALL CELLS IN HAND THE PHASE IS ENDED, and their journals have a merge
pub record IsFinished (net : NetParts) (phase : ℕ) (cells : List CellParts) (begun : ℕ → Cell (machine_in net phase)) : Type 0 where
  pub ends : ℕ → Cell (machine_in net phase)
  pub merged : List (Entry (machine_in net phase))
  pub in_hand : IsPhaseInHand (machine_in net phase) phase begun (journals net phase cells) merged ends
  pub ended : IsPhaseEnded (machine_in net phase) phase ends
  pub stand : (k : ℕ) (cell : CellParts) → slice_get cells k ≡ Some cell → RepresentsCell net phase cell.held.core cell.held.links.items (ends (suc k))
  pub others : (server : ℕ) → ((k : ℕ) → server ≡ suc k → k < length cells → ⊥) → ends server ≡ begun server

-- a cell's clock, or the stamp of a message that it put, is the last one
abbrev pub HasLast : Sight → Type 0
HasLast s = (s.core.clock ≡ last_stamp) ⊎ ((to : ℕ) × (m : Represented) × Has m (s.put to) × (m.stamp ≡ last_stamp))

-- so it is with one of the cells
abbrev pub IsWornSomewhere : ℕ → List Sight → Type 0
IsWornSomewhere stamp all = (stamp ≡ last_stamp) × ((k : ℕ) × (s : Sight) × (slice_get all k ≡ Some s) × HasLast s)
