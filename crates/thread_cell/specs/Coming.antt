-- Defines the phase of the next command, over clients, servers and nets.
use Rattle.std.specs.Prelude.{◌≡◌, ◌≤◌, ℕ, List, Option, Some, None, slice_get}
use Rattle.server_spec.specs.Session.{SessionParts}
use Rattle.server_core.specs.Core.{CoreParts}
use Rattle.thread_cell.specs.Cell.{CellParts, HasNoneBelow, IsPast}
use Rattle.thread_cell.specs.Turns.{HasCommand}

-- the one phase is no later than the other; no phase is later than each
abbrev pub IsNoLater : Option ℕ → Option ℕ → Type 0
IsNoLater one None = Unit {0}
IsNoLater None (Some other) = ⊥
IsNoLater (Some one) (Some other) = one ≤ other

-- the next command of a client is of this phase or a later one; for no phase there is none
abbrev pub IsFrom : Option ℕ → ℕ → List SessionParts → Type 0
IsFrom None client sessions = (phase : ℕ) → IsPast phase client sessions
IsFrom (Some phase) client sessions = IsPast phase client sessions

-- so are those of all clients of a server
abbrev pub AreFrom : Option ℕ → List SessionParts → Type 0
AreFrom None sessions = (phase : ℕ) → HasNoneBelow phase sessions
AreFrom (Some phase) sessions = HasNoneBelow phase sessions

-- and a client of the server has one of that phase
abbrev pub IsOfSome : Option ℕ → CoreParts → Type 0
IsOfSome None core = Unit {0}
IsOfSome (Some phase) core = (client : ℕ) × HasCommand core client phase

-- some cell has a command of a phase that is next
pub record HaveCommand (cells : List CellParts) (phase : ℕ) : Type 0 where
  pub place : ℕ
  pub cell : CellParts
  pub at : slice_get cells place ≡ Some cell
  pub client : ℕ
  pub command : HasCommand cell.held.core client phase
