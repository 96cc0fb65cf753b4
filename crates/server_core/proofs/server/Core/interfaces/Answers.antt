use Rattle.std.proofs.Common.{◌≡◌, map, sym, subst}
use Rattle.base.specs.Sets.{Has}
use Rattle.server_core.specs.Clients.{bare, client_numbers}
use Rattle.server_core.specs.Core.{CoreParts, core_parts}
use Rattle.server_core.specs.Linked.{interfaces_on}
use Rattle.server_core.proofs.Relinks.{interfaces-low}
use Rattle.server_core.proofs.server.Core.interfaces.Goals as goal

pub returns-clause-whole : goal.returns-clause-whole
returns-clause-whole c = subst (λ (z : CoreParts). z.interfaces ≡ interfaces_on z.control.links (client_numbers z.clients)) c.self.view_is c.self.invariant.whole

pub returns-clause-low : goal.returns-clause-low
returns-clause-low c i m =
    let core : CoreParts = core_parts c.self.inside.server c.self.inside.ledger (map bare c.self.inside.clients.sessions) c.self.inside.clock in
    interfaces-low core c.self.invariant.kept i (subst (Has i) c.self.invariant.whole (subst (λ (z : CoreParts). Has i z.interfaces) (sym c.self.view_is) m))
