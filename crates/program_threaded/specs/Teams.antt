-- Defines the cells of a net with the viewers of their workers, between two phases.
use Rattle.std.specs.Prelude.{◌≡◌, ℕ, List, [], ◌∷◌, map}
use Rattle.net_model.specs.Parts.{NetParts}
use Rattle.thread_versions.specs.Ends.{IsSameViewer}
use Rattle.thread_cell.specs.declared.starting.Started.{Started}
use Rattle.thread_cell.specs.Cell.{CellParts}
use Rattle.thread_cell.specs.Entered.{IsEntered, state_of}
use Rattle.thread_cell.specs.Together.{AreTogether, cell_roots, keepings}
use Rattle.thread_outcome.specs.Outcome.{AreInHand, AreAtStart, StandBetween, journals_by}
use Rattle.thread_workers.specs.declared.server_workers.Viewers.{Viewers}
use Rattle.thread_workers.specs.ServerWorkers.{AreViewersOf, Pairwise}

-- the cells of a net are in hand between two phases
pub record AreBetweenPhases (net : NetParts) (last : ℕ) (cells : List CellParts) : Type 0 where
  pub next : ℕ
  pub stand : StandBetween net last next cells
  pub hand : AreInHand net last cells

-- and two viewers are there of the publisher of each
pub record IsTeam (net : NetParts) (last : ℕ) (cells : List CellParts) (viewers : List Viewers) : Type 0 where
  pub between : AreBetweenPhases net last cells
  pub viewers_of : Pairwise AreViewersOf (cell_roots cells) viewers

-- viewers that come with a cell are of its publisher
abbrev pub HasViewers : Started → Type 0
HasViewers started = IsSameViewer started.cell.root.viewer.value started.commands × IsSameViewer started.cell.root.viewer.value started.links

abbrev pub HaveViewers : List Started → Type 0
HaveViewers [] = Unit {0}
HaveViewers (one ∷ started) = HasViewers one × HaveViewers started

-- cells that stood before a phase have entered it
pub record HaveStarted (net : NetParts) (last phase : ℕ) (old new : List CellParts) : Type 0 where
  pub stood : StandBetween net last phase old
  pub enters : IsEntered net last phase (state_of net last stood.ends) new
  pub journals : journals_by new ≡ journals_by old
  pub starts : AreAtStart new
  pub together : AreTogether net phase (cell_roots new)
  pub viewers : map (λ cell. cell.root.viewer.value) new ≡ map (λ cell. cell.root.viewer.value) old
  pub keeps : keepings new ≡ keepings old

-- cells that stood before a phase entered it, and workers may have made turns of it since
pub record AreUnderWay (net : NetParts) (last phase : ℕ) (old started now : List CellParts) : Type 0 where
  pub hand : AreInHand net last old
  pub have : HaveStarted net last phase old started
  pub roots_stay : cell_roots now ≡ cell_roots started
