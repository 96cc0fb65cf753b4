use Rattle.std.proofs.Common.{sym, subst}
use Rattle.hierarchy_network.specs.Core.{HierarchyParts}
use Rattle.sequential_network.specs.Kept.{IsPlace}
use Rattle.hierarchy_network.proofs.forwarding_server.ForwardingServer.raise.Goals as goal

pub invariant_of-self : goal.invariant_of-self
invariant_of-self c = subst (λ (z : HierarchyParts). IsPlace z.core c.self.inside.forwarding) (sym c.raise.ensures) c.self.invariant
