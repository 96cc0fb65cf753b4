-- A change of tree at one server by numbers: other links, with what is held from them.
use Rattle.std.specs.Prelude.{◌≡◌, ◌+◌, ◌++◌, ℕ, ◌<◌, ◌≤◌, List, [], map, nat_lt}
use Rattle.filter_types.specs.Before.{list_before}
use Rattle.base.specs.Sets.{Has, IsRising}
use Rattle.server_spec.specs.declared.control.HeldLink.{HeldLink}
use Rattle.server_spec.specs.Control.{Controlled, subs, advs, IsRelinked}
use Rattle.server_core.specs.Clients.{client_numbers}
use Rattle.server_core.specs.Ledger.{LedgerParts}
use Rattle.server_core.specs.Core.{CoreParts, installed_from}

-- links that a caller may give: strictly rising, from 1 to 64, with rising lists
pub record AreHeldLinks (held : List HeldLink) : Type 0 where
  pub rising : IsRising nat_lt (map (λ h. h.link) held)
  pub small : (h : HeldLink) → Has h held → h.link ≤ 64
  pub filters : (h : HeldLink) → Has h held → IsRising list_before h.filters
  pub adverts : (h : HeldLink) → Has h held → IsRising list_before h.adverts

-- the interfaces of a server with these links and clients
abbrev pub interfaces_on : List ℕ → List ℕ → List ℕ
interfaces_on links clients = links ++ map (λ n. 64 + n) clients

-- what a core holds, what is installed and what is pending
abbrev pub ledger_of : CoreParts → LedgerParts
ledger_of core = record { net = core.net; interfaces = core.interfaces; control = core.control; installed = core.installed; pending = core.pending }

-- a ledger of the core's net for the same clients, which hold what they held, over links that rise up to 64
pub record SuitsCore (core : CoreParts) (ledger : LedgerParts) : Type 0 where
  pub net : ledger.net ≡ core.net
  pub interfaces : ledger.interfaces ≡ interfaces_on ledger.control.links (client_numbers core.clients)
  pub semantics : ledger.control.semantics ≡ core.control.semantics
  pub rising : IsRising nat_lt ledger.control.links
  pub small : (link : ℕ) → Has link ledger.control.links → link ≤ 64
  pub client_filters : (i : ℕ) → 64 < i → subs ledger.control i ≡ subs core.control i
  pub client_adverts : (i : ℕ) → 64 < i → advs ledger.control i ≡ advs core.control i

-- a control with these links and what is given as held from them
pub record IsLinked (held : List HeldLink) (old new : Controlled) : Type 0 where
  pub links : new.links ≡ map (λ h. h.link) held
  pub filters : IsRelinked (λ h. h.filters) held (subs old) (subs new)
  pub adverts : IsRelinked (λ h. h.adverts) held (advs old) (advs new)

-- the core with another ledger, whose filters are all installed, so that nothing is pending
pub record IsOnLinks (ledger : LedgerParts) (old new : CoreParts) : Type 0 where
  pub control_is : new.control ≡ ledger.control
  pub interfaces : new.interfaces ≡ ledger.interfaces
  pub installed : (i : ℕ) → installed_from new i ≡ subs ledger.control i
  pub pending : new.pending ≡ []
  pub net : new.net ≡ old.net
  pub server : new.server ≡ old.server
  pub clients : new.clients ≡ old.clients
  pub clock : new.clock ≡ old.clock
