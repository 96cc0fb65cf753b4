-- Defines what the type of a core keeps.
use Rattle.std.specs.Prelude.{◌≡◌, ℕ, true, ◌<◌, ◌≤◌, ◌^◌, nat_lt, List}
use Rattle.std.specs.Int.{IsInRange}
use Rattle.base.specs.Sets.{Has, IsRising}
use Rattle.law_routing.specs.Server.{client_interface}
use Rattle.server_spec.specs.Control.{subs, advs, by_adverts}
use Rattle.net_model.specs.Parts.{NetParts}
use Rattle.server_spec.specs.Session.{SessionParts}
use Rattle.server_spec.specs.Turn.{filter_set_at, advert_set_at}
use Rattle.server_core.specs.Clients.{client_numbers}
use Rattle.server_core.specs.Core.{CoreParts}
use Rattle.server_core.specs.Linked.{interfaces_on}

-- the clock is a stamp, links rise up to 64, sessions are of the server's semantics and their clients' numbers in range, and what is held from
-- a client are its own lists
pub record IsCore (core : CoreParts) : Type 0 where
  pub clock_low : core.clock < 2 ^ 62
  pub links_rise : IsRising nat_lt core.control.links
  pub links_small : (link : ℕ) → Has link core.control.links → link ≤ 64
  pub one_semantics : (s : SessionParts) → Has s core.clients → s.semantics ≡ core.control.semantics
  pub ids : (s : SessionParts) → Has s core.clients → IsInRange 1 1024 s.client
  pub own_filters : (s : SessionParts) → Has s core.clients → subs core.control (client_interface s.client) ≡ filter_set_at s s.taken
  pub own_adverts : (s : SessionParts) → Has s core.clients → by_adverts core.control.semantics ≡ true
      → advs core.control (client_interface s.client) ≡ advert_set_at s s.taken

-- beside it, the sessions are of the ledger's net, the semantics is the net's, and the interfaces are the links and those of the clients
pub record IsKept (interfaces : List ℕ) (net : NetParts) (core : CoreParts) : Type 0 where
  pub kept : IsCore core
  pub of_net : net ≡ core.net
  pub of_semantics : core.control.semantics ≡ core.net.semantics
  pub whole : interfaces ≡ interfaces_on core.control.links (client_numbers core.clients)
  pub linked : (link : ℕ) → Has link core.control.links → Has link interfaces
  pub reached : (s : SessionParts) → Has s core.clients → Has (client_interface s.client) interfaces
