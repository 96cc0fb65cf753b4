use Rattle.std.proofs.Common.{◌≡◌, ◌↔◌, IsTrue, nat_eq, ◌-◌, length, slice_get, sym, ap, subst, ◌∙◌, arith}
use Rattle.base.specs.Sets.{Has}
use Rattle.net_model.specs.Nets.{clients_of}
use Rattle.net_model.specs.Parts.{ClientParts, NetParts}
use Rattle.thread_cell.proofs.Housed.{home-iff, no-home}
use Rattle.thread_cell.proofs.naming.lives_at.Goals as goal
use Rattle.base.proofs.Lists.{get-index}

pub returns-then-client-eq0 : goal.returns-then-client-eq0
returns-then-client-eq0 c = no-home c.args.net.now c.args.server c.args.client (λ h. (let low = h.0 in omega (arith, low, c.if-client-eq0.true)))

pub returns-then-place-len : goal.returns-then-place-len
returns-then-place-len c = no-home c.args.net.now c.args.server c.args.client (λ h. (
    let low = h.0 in
    let high = h.1 in
    let n : length c.net.inside.clients.items ≡ length c.args.net.now.clients = ap (λ (z : NetParts). length z.clients) c.net.view_is in
    omega (arith, low, high, n, c.len.ensures, c.if-place-len.true)))

pub returns : goal.returns
returns c =
    subst (λ (z : ClientParts). IsTrue (nat_eq z.home c.args.server) ↔ Has c.args.client (clients_of c.args.net.now c.args.server)) (sym c.behind-net.view_is)
    (home-iff c.args.net.now c.args.server c.args.client c.index.result.now (omega (arith, c.if-client-eq0.false))
    (ap (λ (z : NetParts). slice_get z.clients (c.args.client - 1)) (sym c.net.view_is)
    ∙ get-index c.net.inside.clients.items (c.args.client - 1) c.index.result.now (omega (arith, c.len.ensures, c.if-place-len.false)) c.index.ensures))
