-- What is installed by numbers at a core that is given a ledger, and with what comes back.
use Rattle.std.proofs.Common.{◌≡◌, ℕ, sym, subst, ◌∙◌}
use Rattle.server_spec.specs.Control.{subs}
use Rattle.match_routes.specs.Installed.{Installed}
use Rattle.server_core.specs.Ledger.{LedgerParts}
use Rattle.server_core.specs.Core.{CoreParts, installed_from}
use Rattle.server_core.specs.Linked.{IsOnLinks, ledger_of}
use Rattle.sequential_network.specs.Kept.{RepresentsForwarding, IsPlace}
use Rattle.sequential_network.proofs.Placed.{forwarding-same, forwarding-at}

-- a core on other links has the pairs that were made for it
pub forwarding-on : (old core : CoreParts) (ledger : LedgerParts) (f : Installed) → ledger.net ≡ old.net → IsOnLinks ledger old core → RepresentsForwarding ledger.net ledger.interfaces (subs ledger.control) f → IsPlace core f
forwarding-on old core ledger f net on is =
    forwarding-same core.net core.interfaces (subs ledger.control) (installed_from core) f on.installed
    (forwarding-at ledger.net core.net ledger.interfaces core.interfaces (subs ledger.control) f (on.net ∙ sym net) on.interfaces is)

-- what comes back has those of the core
pub forwarding-back : (core : CoreParts) (ledger : LedgerParts) (f : Installed) → ledger ≡ ledger_of core → ((i : ℕ) → installed_from core i ≡ subs core.control i) → IsPlace core f
    → RepresentsForwarding ledger.net ledger.interfaces (subs ledger.control) f
forwarding-back core ledger f e installed is =
    subst (λ (z : LedgerParts). RepresentsForwarding z.net z.interfaces (subs z.control) f) (sym e)
    (forwarding-same core.net core.interfaces (installed_from core) (subs core.control) f (λ i. sym (installed i)) is)

-- what fits, fits whatever the clock

-- given a control first and then a clock
