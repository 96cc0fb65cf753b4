use Rattle.std.proofs.Common.{sym, subst}
use Rattle.server_core.specs.Core.{CoreParts}
use Rattle.server_spec.specs.Control.{subs}
use Rattle.sequential_network.specs.Kept.{RepresentsForwarding, IsPlace}
use Rattle.sequential_network.specs.Begin.{FitsCore}
use Rattle.sequential_network.proofs.Fitting.{forwarding-on, forwarding-back}
use Rattle.sequential_network.proofs.forwarding_server.ForwardingServer.relink.Goals as goal

pub invariant_of-self : goal.invariant_of-self
invariant_of-self c =
    let fits = subst (λ (z : CoreParts). FitsCore z c.args.links) (sym c.self.view_is) c.requires in
    let suits = subst (FitsCore c.self.inside.core) (sym c.links.view_is) fits in
    subst (IsPlace c.relink-relinked.new.self) (sym c.replace-forwarding.ensures.after)
    (forwarding-on c.self.inside.core c.relink-relinked.new.self c.links.inside.relinked c.links.inside.forwarding suits.suits.net c.relink-relinked.ensures.core c.links.invariant)

pub invariant_of-result : goal.invariant_of-result
invariant_of-result c =
    let fits = subst (λ (z : CoreParts). FitsCore z c.args.links) (sym c.self.view_is) c.requires in
    let r = c.relink-relinked.result in
    subst (RepresentsForwarding r.net r.interfaces (subs r.control)) (sym c.replace-forwarding.ensures.value)
    (forwarding-back c.self.inside.core r c.self.inside.forwarding c.relink-relinked.ensures.back fits.installed c.self.invariant)
