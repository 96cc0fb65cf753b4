use Rattle.std.proofs.Common.{◌≡◌, sym, subst}
use Rattle.base.specs.Sets.{Has}
use Rattle.server_core.specs.Clients.{bare, client_numbers}
use Rattle.hierarchy_network.specs.Core.{HierarchyParts}
use Rattle.server_core.proofs.Commands.{numbers-bare}
use Rattle.hierarchy_network.proofs.server.HierarchyCore.session.Goals as goal
use Rattle.base.proofs.Sets.{map-has}

pub unreachable-requires : goal.unreachable-requires
unreachable-requires c =
    c.in_default.ensures.none (subst (Has c.args.client) (numbers-bare c.self.inside.clients.sessions) (subst (λ (z : HierarchyParts). Has c.args.client (client_numbers z.core.clients)) (sym c.self.view_is) c.requires))

pub returns-clause-session : goal.returns-clause-session
returns-clause-session c =
    subst (λ (z : HierarchyParts). Has (bare c.in-Some.session.now.session) z.core.clients) c.self.view_is (map-has bare c.self.inside.clients.sessions c.in-Some.session.now.session c.in-Some.ensures.session.0)

pub returns-clause-semantics : goal.returns-clause-semantics
returns-clause-semantics c =
    subst (λ (z : HierarchyParts). c.in-Some.session.now.session.semantics ≡ z.core.net.semantics) c.self.view_is
    (c.self.invariant.sessions (bare c.in-Some.session.now.session) (map-has bare c.self.inside.clients.sessions c.in-Some.session.now.session c.in-Some.ensures.session.0))
