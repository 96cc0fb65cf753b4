use Rattle.std.proofs.Common.{sym, ap, subst, ◌∙◌}
use Rattle.base.specs.Sets.{Has}
use Rattle.net_inbox.specs.Inbox.{at_numbers}
use Rattle.net_tables.specs.Found.{known_deliveries}
use Rattle.hierarchy_network.specs.Core.{HierarchyParts}
use Rattle.sequential_network.specs.Kept.{IsPlace}
use Rattle.hierarchy_network.proofs.forwarding_server.ForwardingServerServer.take_inbox.Goals as goal

pub invariant_of-self : goal.invariant_of-self
invariant_of-self c = subst (λ (z : HierarchyParts). IsPlace z.core c.self.inside.forwarding) (sym c.take_inbox.ensures.emptied) c.self.invariant

pub returns-clause-inbox : goal.returns-clause-inbox
returns-clause-inbox c = λ s m e.
    ap (λ (z : HierarchyParts). at_numbers (known_deliveries z.core.net.clients) c.take_inbox.result.items) (sym c.self.view_is)
    ∙ c.take_inbox.ensures.inbox s (subst (λ (z : HierarchyParts). Has s z.core.clients) (sym c.self.view_is) m) e
