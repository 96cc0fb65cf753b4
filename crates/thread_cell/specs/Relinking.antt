-- One server is set on the links of another tree, and its publisher with it.
use Rattle.std.specs.Prelude.{◌≡◌, ◌↔◌, ℕ, ◌≤◌, true, List, [], map, slice_get, Some}
use Rattle.base.specs.Sets.{Has}
use Rattle.filter_constraints.specs.Constraint.{ConstraintParts}
use Rattle.match_routes.specs.declared.table_change.TableChange.{TableChange}
use Rattle.match_routes.specs.declared.table_change.TableChange.TheVariants.{Take}
use Rattle.law_routing.specs.Server.{ServerState, client_interface}
use Rattle.law_phases.specs.Trees.{net_at, is_one_tree}
use Rattle.net_model.specs.Real.{real}
use Rattle.net_model.specs.Nets.{phased_net}
use Rattle.server_spec.specs.declared.control.HeldLink.{HeldLink}
use Rattle.server_spec.specs.Control.{Controlled, subs, advs}
use Rattle.server_flow.specs.Homes.{NetHome}
use Rattle.server_core.specs.Clients.{client_numbers}
use Rattle.server_core.specs.Ledger.{LedgerParts}
use Rattle.server_core.specs.Core.{CoreParts, RepresentsServer}
use Rattle.server_core.specs.Linked.{AreHeldLinks, SuitsCore, IsLinked, IsOnLinks}
use Rattle.thread_versions.specs.Ends.{IsSamePublisher}
use Rattle.thread_cell.specs.declared.held.ServerInHand.{ServerInHand}
use Rattle.thread_cell.specs.declared.link.Link.{Link}
use Rattle.filter_text.specs.MessageText.{Each}
use Rattle.thread_cell.specs.Lanes.{IsNew, neighbours_in}
use Rattle.thread_cell.specs.Cell.{CellParts, HasEntered, HasNoneBelow}

-- what the clients of a server have together: what its core holds from their interfaces
pub record RepresentsHome (core : CoreParts) (home : NetHome) : Type 0 where
  pub net : home.net ≡ core.net
  pub filters : (f : List ConstraintParts) → Has f home.home.filters
      ↔ ((client : ℕ) × Has client (client_numbers core.clients) × Has f (subs core.control (client_interface client)))
  pub adverts : (a : List ConstraintParts) → Has a home.home.adverts
      ↔ ((client : ℕ) × Has client (client_numbers core.clients) × Has a (advs core.control (client_interface client)))

-- a number is no longer installed from a link
abbrev pub takes : ℕ → ℕ → TableChange
takes link number = Take number link

-- changes that take away what is held from links: of links alone, and all that is held from each
pub record AreTaken (items : List (List ConstraintParts)) (control : Controlled) (links : List ℕ) (changes : List TableChange) : Type 0 where
  pub only : (change : TableChange) → Has change changes → (link number : ℕ) × (change ≡ takes link number) × Has link links
  pub all : (link number : ℕ) (f : List ConstraintParts) → Has link links → slice_get items number ≡ Some f → Has f (subs control link)
      → Has (takes link number) changes

-- a server has these links, with what is given as held from them, and these lanes; its publisher is the same
pub record IsPutOn (given : List HeldLink) (row : List Link) (old new : ServerInHand) : Type 0 where
  pub ledger : LedgerParts
  pub linked : IsLinked given old.core.control ledger.control
  pub suits : SuitsCore old.core ledger
  pub core : IsOnLinks ledger old.core new.core
  pub links : new.links.items ≡ row
  pub publisher : IsSamePublisher old.publisher new.publisher

-- a cell can enter a phase on links of which this is given, over these lanes, with this clock: nothing is pending, no client has a lower command left,
-- and on such links its core represents a state of its server on the tree of that phase
pub record CanMove (phase clock : ℕ) (given : List HeldLink) (row : List Link) (cell : CellParts) : Type 0 where
  pub not_above : cell.held.core.clock ≤ clock
  pub not_later : cell.root.phase ≤ phase
  pub through : HasNoneBelow phase cell.held.core.clients
  pub calm : cell.held.core.pending ≡ []
  pub links : AreHeldLinks given
  pub names : neighbours_in row ≡ map (λ h. h.link) given
  pub new : Each IsNew row
  pub state : ServerState real
  pub stands : (ledger : LedgerParts) (core : CoreParts) → IsLinked given cell.held.core.control ledger.control → SuitsCore cell.held.core ledger
      → IsOnLinks ledger cell.held.core core → RepresentsServer (net_at real (phased_net cell.root.net.value) phase) core state

-- a cell has entered a phase on links of which this was given, over these lanes, with this clock
pub record HasMoved (phase clock : ℕ) (given : List HeldLink) (row : List Link) (old new : CellParts) : Type 0 where
  pub entered : HasEntered old.root phase new
  pub ledger : LedgerParts
  pub linked : IsLinked given old.held.core.control ledger.control
  pub suits : SuitsCore old.held.core ledger
  pub core : IsOnLinks ledger old.held.core (record new.held.core { clock = old.held.core.clock })
  pub clock_is : new.held.core.clock ≡ clock
  pub lanes : new.held.links.items ≡ row

-- a cell can enter a phase with the same tree, with this clock
pub record CanRaise (phase clock : ℕ) (cell : CellParts) : Type 0 where
  pub not_above : cell.held.core.clock ≤ clock
  pub not_later : cell.root.phase ≤ phase
  pub through : HasNoneBelow phase cell.held.core.clients
  pub tree : is_one_tree real (phased_net cell.root.net.value) cell.root.phase phase ≡ true

-- a cell has
pub record HasRaised (phase clock : ℕ) (old new : CellParts) : Type 0 where
  pub entered : HasEntered old.root phase new
  pub core : new.held.core ≡ record old.held.core { clock = clock }
  pub lanes : new.held.links ≡ old.held.links
