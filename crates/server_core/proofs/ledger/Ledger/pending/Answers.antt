use Rattle.std.proofs.Common.{subst}
use Rattle.server_spec.specs.Holdings.{held_from}
use Rattle.server_spec.specs.Control.{subs}
use Rattle.net_model.specs.Real.{real}
use Rattle.net_tables.specs.Known.{known_filters}
use Rattle.server_core.specs.Ledger.{LedgerParts}
use Rattle.server_core.specs.Pending.{IsPending}
use Rattle.server_core.proofs.ledger.Ledger.pending.Goals as goal

pub returns-clause-pending : goal.returns-clause-pending
returns-clause-pending c =
    subst (λ (z : LedgerParts). IsPending (known_filters z.net.clients) z.interfaces (λ i. held_from real.before i z.installed) (subs z.control) z.pending) c.self.view_is c.self.invariant.changes
