-- Defines the beginning of a later phase at each server, and how it is taken back.
use Rattle.std.specs.Prelude.{◌≡◌, ◌↔◌, ℕ, suc, ◌<◌, ◌^◌, List, [], length, slice_get, Option, Some, None}
use Rattle.law_phases.specs.Trees.{State, net_at, IsAtRestOn}
use Rattle.law_phases.specs.Moments.{begun}
use Rattle.net_model.specs.Real.{real}
use Rattle.net_model.specs.Parts.{NetParts}
use Rattle.net_model.specs.Nets.{phased_net}
use Rattle.server_spec.specs.declared.control.HeldLink.{HeldLink}
use Rattle.server_spec.specs.Control.{subs, advs}
use Rattle.filter_constraints.specs.Constraint.{ConstraintParts}
use Rattle.base.specs.Sets.{Has}
use Rattle.law_routing.specs.Server.{client_interface}
use Rattle.server_flow.specs.Homes.{NetHome}
use Rattle.server_core.specs.Clients.{client_numbers}
use Rattle.server_core.specs.Ledger.{LedgerParts}
use Rattle.server_core.specs.Core.{CoreParts, RepresentsServer, installed_from}
use Rattle.server_core.specs.Linked.{SuitsCore, IsLinked, IsOnLinks, ledger_of}
use Rattle.sequential_network.specs.Kept.{AreServers}
use Rattle.sequential_network.specs.Stepping.{greatest_clock, peers}
use Rattle.sequential_network.specs.declared.relinking.Standing.{Standing}

-- a ledger fits a core of which all is installed
pub record FitsCore (core : CoreParts) (ledger : LedgerParts) : Type 0 where
  pub suits : SuitsCore core ledger
  pub pending : core.pending ≡ []
  pub installed : (i : ℕ) → installed_from core i ≡ subs core.control i

-- the same where one is given
abbrev pub FitsWhere : CoreParts → Option LedgerParts → Type 0
FitsWhere core None = Unit {0}
FitsWhere core (Some ledger) = FitsCore core ledger

-- a standing that a core can take on
pub record CanTake (standing : Standing) (core : CoreParts) : Type 0 where
  pub low : standing.clock < 2 ^ 62
  pub fits : FitsWhere core standing.links

-- a core that was given a ledger, where one is given
abbrev pub IsOn : Option LedgerParts → CoreParts → CoreParts → Type 0
IsOn None old new = new ≡ old
IsOn (Some ledger) old new = IsOnLinks ledger old new

-- the same but for its clock
abbrev pub IsGivenLedger : Option LedgerParts → CoreParts → CoreParts → Type 0
IsGivenLedger links old new = IsOn links old (record new { clock = old.clock })

-- what comes back: what the core had
abbrev pub given_back : Option LedgerParts → LedgerParts → Option LedgerParts
given_back None ledger = None
given_back (Some given) ledger = Some ledger

-- a core took a standing on, and that is now what the core had
pub record IsExchanged (standing : Standing) (old : CoreParts) (left : Standing) (new : CoreParts) : Type 0 where
  pub given : IsGivenLedger standing.links old new
  pub clock : new.clock ≡ standing.clock
  pub clock_back : left.clock ≡ old.clock
  pub back : left.links ≡ given_back standing.links (ledger_of old)
  pub can : CanTake left new

-- standings that cores can take on, one by one
pub record CanAllTake (standings : List Standing) (cores : List CoreParts) : Type 0 where
  pub long : length standings ≡ length cores
  pub each : (place : ℕ) (standing : Standing) (core : CoreParts) → slice_get standings place ≡ Some standing → slice_get cores place ≡ Some core
      → CanTake standing core

-- each core took its standing on
pub record AreExchanged (standings : List Standing) (old : List CoreParts) (back : List Standing) (new : List CoreParts) : Type 0 where
  pub long : length new ≡ length old
  pub long_back : length back ≡ length standings
  pub each : (place : ℕ) (standing : Standing) (core : CoreParts) → slice_get standings place ≡ Some standing → slice_get old place ≡ Some core
      → (left : Standing) × (after : CoreParts) × (slice_get back place ≡ Some left) × (slice_get new place ≡ Some after) × IsExchanged standing core left after

-- the standings of a later phase, for all servers: clocks are raised to the greatest, and where its tree is another one each server is on it
pub record Begins (net : NetParts) (last phase : ℕ) (cores : List CoreParts) (standings : List Standing) : Type 0 where
  pub can : CanAllTake standings cores
  pub clock : (place : ℕ) (standing : Standing) → slice_get standings place ≡ Some standing → standing.clock ≡ greatest_clock peers cores
  pub stands : (state : State real) → AreServers net last state cores → IsAtRestOn real (phased_net net) last state
      → (place : ℕ) (standing : Standing) (core new : CoreParts) → slice_get standings place ≡ Some standing → slice_get cores place ≡ Some core
      → IsGivenLedger standing.links core new
      → RepresentsServer (net_at real (phased_net net) phase) new ((begun real (phased_net net) last phase state).state (suc place))

-- a core has these things of an old one, and will have the rest once it takes up what comes back
abbrev pub IsCoreKept : Option LedgerParts → CoreParts → CoreParts → Type 0
IsCoreKept None old new = record new { clock = old.clock } ≡ old
IsCoreKept (Some ledger) old new = (ledger ≡ ledger_of old) × (old.pending ≡ []) × ((i : ℕ) → installed_from old i ≡ subs old.control i)
    × (new.net ≡ old.net) × (new.server ≡ old.server) × (new.clients ≡ old.clients)

-- a standing that was replaced at a core takes the core back
pub record IsUndone (before : Standing) (old new : CoreParts) : Type 0 where
  pub can : CanTake before new
  pub clock : before.clock ≡ old.clock
  pub kept : IsCoreKept before.links old new

-- WHAT THE BEGINNING OF A PHASE REPLACED: it takes these cores back to the old ones
pub record IsUndoneBy (before : List Standing) (old new : List CoreParts) : Type 0 where
  pub long : length new ≡ length old
  pub long_before : length before ≡ length new
  pub each : (place : ℕ) (standing : Standing) (core now : CoreParts) → slice_get before place ≡ Some standing → slice_get old place ≡ Some core
      → slice_get new place ≡ Some now → IsUndone standing core now

-- a standing on other links, where this is held from them
pub record IsOnOtherLinks (held : List HeldLink) (core : CoreParts) (standing : Standing) : Type 0 where
  pub ledger : LedgerParts
  pub given : standing.links ≡ Some ledger
  pub linked : IsLinked held core.control ledger.control
  pub suits : SuitsCore core ledger

-- what the clients of a server have together: what its core holds from their interfaces
pub record RepresentsHome (core : CoreParts) (home : NetHome) : Type 0 where
  pub net : home.net ≡ core.net
  pub filters : (f : List ConstraintParts) → Has f home.home.filters
      ↔ ((client : ℕ) × Has client (client_numbers core.clients) × Has f (subs core.control (client_interface client)))
  pub adverts : (a : List ConstraintParts) → Has a home.home.adverts
      ↔ ((client : ℕ) × Has client (client_numbers core.clients) × Has a (advs core.control (client_interface client)))
