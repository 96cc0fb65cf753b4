use Rattle.std.proofs.Common.{subst}
use Rattle.server_spec.specs.Control.{subs}
use Rattle.net_tables.specs.Known.{known_filters}
use Rattle.server_core.specs.Core.{CoreParts, installed_from}
use Rattle.server_core.specs.Pending.{IsPending}
use Rattle.server_core.proofs.server.Core.pending.Goals as goal

pub returns-clause-pending : goal.returns-clause-pending
returns-clause-pending c =
    subst (λ (z : CoreParts). IsPending (known_filters z.net.clients) z.interfaces (installed_from z) (subs z.control) z.pending) c.self.view_is c.pending.ensures.pending
