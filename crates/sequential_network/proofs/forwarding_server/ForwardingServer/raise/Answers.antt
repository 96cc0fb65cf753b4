use Rattle.std.proofs.Common.{sym, subst}
use Rattle.server_core.specs.Core.{CoreParts}
use Rattle.sequential_network.specs.Kept.{IsPlace}
use Rattle.sequential_network.proofs.forwarding_server.ForwardingServer.raise.Goals as goal

pub invariant_of-self : goal.invariant_of-self
invariant_of-self c = subst (λ (z : CoreParts). IsPlace z c.self.inside.forwarding) (sym c.raise.ensures) c.self.invariant
