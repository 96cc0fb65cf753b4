use Rattle.std.proofs.Common.{subst}
use Rattle.server_spec.specs.Control.{subs}
use Rattle.net_tables.specs.Known.{known_filters}
use Rattle.server_core.specs.Core.{installed_from}
use Rattle.hierarchy_network.specs.Core.{HierarchyParts}
use Rattle.server_core.specs.Pending.{IsPending}
use Rattle.hierarchy_network.proofs.server.HierarchyCore.pending.Goals as goal

pub returns-clause-pending : goal.returns-clause-pending
returns-clause-pending c =
    subst (λ (z : HierarchyParts). IsPending (known_filters z.core.net.clients) z.core.interfaces (installed_from z.core) (subs z.core.control) z.core.pending) c.self.view_is c.pending.ensures.pending
