-- Defines the cells of a net before their first step.
use Rattle.std.specs.Prelude.{◌≡◌, ℕ, suc, List, [], map, Some, slice_get}
use Rattle.law_machine.specs.Journals.{opening_cells}
use Rattle.law_routing.specs.Routing.{empty_server}
use Rattle.law_phases.specs.Trees.{net_at}
use Rattle.net_model.specs.Real.{real}
use Rattle.net_model.specs.Parts.{NetParts}
use Rattle.net_model.specs.Nets.{phased_net}
use Rattle.thread_versions.specs.Ends.{IsSameViewer}
use Rattle.thread_cell.specs.declared.link.Link.{Link}
use Rattle.thread_cell.specs.declared.starting.Started.{Started}
use Rattle.thread_cell.specs.Cell.{CellParts, RepresentsCell, machine_in}
use Rattle.thread_cell.specs.Together.{AreTogether}

-- a cell of a server in phase 0, with these lanes, the clock 0 and an empty journal; it represents its server at the opening
pub record IsFreshCell (net : NetParts) (server : ℕ) (links : List Link) (cell : CellParts) : Type 0 where
  pub net_is : cell.root.net.value ≡ net
  pub server_is : cell.root.server ≡ server
  pub phase : cell.root.phase ≡ 0
  pub before : cell.root.before.value.entries ≡ []
  pub core : cell.root.core.value ≡ cell.held.core
  pub lanes : cell.root.links.value ≡ cell.held.links
  pub links_are : cell.held.links.items ≡ links
  pub clock : cell.held.core.clock ≡ 0
  pub journal : cell.journal ≡ []
  pub opening : RepresentsCell net 0 cell.held.core cell.held.links.items
      (opening_cells (machine_in net 0) (λ server. empty_server real (net_at real (phased_net net) 0)) server)

-- with its viewers, which are of the publisher that the cell's root names
pub record IsStarted (net : NetParts) (server : ℕ) (links : List Link) (started : Started) : Type 0 where
  pub fresh : IsFreshCell net server links started.cell
  pub commands : IsSameViewer started.cell.root.viewer.value started.commands
  pub links_viewer : IsSameViewer started.cell.root.viewer.value started.links

-- THE CELLS OF A NET at the start, by server
pub record AreStarted (net : NetParts) (started : List Started) : Type 0 where
  pub together : AreTogether net 0 (map (λ s. s.cell.root) started)
  pub each : (k : ℕ) (s : Started) → slice_get started k ≡ Some s → (links : List Link) × IsStarted net (suc k) links s
