use Rattle.std.proofs.Common.{sym, ap, subst, ◌∙◌}
use Rattle.base.specs.Sets.{Has}
use Rattle.net_inbox.specs.Inbox.{at_numbers}
use Rattle.net_tables.specs.Found.{known_deliveries}
use Rattle.server_core.specs.Core.{CoreParts}
use Rattle.sequential_network.specs.Kept.{IsPlace}
use Rattle.sequential_network.proofs.forwarding_server.ForwardingServerServer.take_inbox.Goals as goal

pub invariant_of-self : goal.invariant_of-self
invariant_of-self c = subst (λ (z : CoreParts). IsPlace z c.self.inside.forwarding) (sym c.take_inbox.ensures.emptied) c.self.invariant

pub returns-clause-inbox : goal.returns-clause-inbox
returns-clause-inbox c = λ s m e.
    ap (λ (z : CoreParts). at_numbers (known_deliveries z.net.clients) c.take_inbox.result.items) (sym c.self.view_is)
    ∙ c.take_inbox.ensures.inbox s (subst (λ (z : CoreParts). Has s z.clients) (sym c.self.view_is) m) e
