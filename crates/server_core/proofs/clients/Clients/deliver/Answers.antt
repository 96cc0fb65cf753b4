use Rattle.std.proofs.Common.{◌≡◌, sym, ap, subst, ◌∙◌}
use Rattle.net_inbox.specs.Inbox.{delivery_at}
use Rattle.net_tables.specs.Found.{known_deliveries}
use Rattle.server_spec.specs.Inbox.{IsDelivery}
use Rattle.server_core.specs.Clients.{ClientsParts, clients_parts, handed, at_client}
use Rattle.server_core.proofs.Sessions.{IsPlace, absent-at, is-there, its-client, its-net, changed, kept-numbers, kept-net, handed-is}
use Rattle.server_core.proofs.clients.Clients.deliver.Goals as goal

pub returns-in_default : goal.returns-in_default
returns-in_default c = ap (clients_parts c.args.self.now.net)
    (sym (absent-at c.args.client (handed (delivery_at (known_deliveries c.args.self.now.net.clients) c.args.number)) c.args.self.now.sessions c.in_default.ensures.none))

pub deliver-requires-clause-room : goal.deliver-requires-clause-room
deliver-requires-clause-room c =
    let p : IsPlace c.self.inside.tables.now c.self.inside.sessions.items c.args.self.now.sessions c.self.inside.numbers.items c.in-Some.place c.args.client c.index_mut.result.now = record { view = ap (λ (z : ClientsParts). z.sessions) c.self.view_is; numbered = c.self.invariant.0; rising = c.self.invariant.1; of = c.self.invariant.2; within = c.in-Some.ensures.some; client = c.in-Some.ensures.session; read = c.index_mut.ensures.value } in
    c.requires.room c.index_mut.result.now.session (is-there p) (its-client p)

pub deliver-requires-clause-text : goal.deliver-requires-clause-text
deliver-requires-clause-text c =
    let p : IsPlace c.self.inside.tables.now c.self.inside.sessions.items c.args.self.now.sessions c.self.inside.numbers.items c.in-Some.place c.args.client c.index_mut.result.now = record { view = ap (λ (z : ClientsParts). z.sessions) c.self.view_is; numbered = c.self.invariant.0; rising = c.self.invariant.1; of = c.self.invariant.2; within = c.in-Some.ensures.some; client = c.in-Some.ensures.session; read = c.index_mut.ensures.value } in
    subst (λ z. IsDelivery (delivery_at (known_deliveries z.clients) c.args.number)) (sym (its-net p ∙ ap (λ (z : ClientsParts). z.net) c.self.view_is)) c.requires.text

pub invariant_of-self : goal.invariant_of-self
invariant_of-self c =
    let p : IsPlace c.self.inside.tables.now c.self.inside.sessions.items c.args.self.now.sessions c.self.inside.numbers.items c.in-Some.place c.args.client c.index_mut.result.now = record { view = ap (λ (z : ClientsParts). z.sessions) c.self.view_is; numbered = c.self.invariant.0; rising = c.self.invariant.1; of = c.self.invariant.2; within = c.in-Some.ensures.some; client = c.in-Some.ensures.session; read = c.index_mut.ensures.value } in
    let d = delivery_at (known_deliveries c.index_mut.result.now.net.clients) c.args.number in
    let e = handed-is d c.index_mut.result.now.session c.deliver.new.self.session c.deliver.ensures.inbox c.deliver.ensures.room c.deliver.ensures.same in
    (kept-numbers p c.deliver.new.self (ap (λ z. z.client) e), c.self.invariant.1, kept-net p c.deliver.new.self c.deliver.ensures.net)

pub returns : goal.returns
returns c =
    let p : IsPlace c.self.inside.tables.now c.self.inside.sessions.items c.args.self.now.sessions c.self.inside.numbers.items c.in-Some.place c.args.client c.index_mut.result.now = record { view = ap (λ (z : ClientsParts). z.sessions) c.self.view_is; numbered = c.self.invariant.0; rising = c.self.invariant.1; of = c.self.invariant.2; within = c.in-Some.ensures.some; client = c.in-Some.ensures.session; read = c.index_mut.ensures.value } in
    let d = delivery_at (known_deliveries c.index_mut.result.now.net.clients) c.args.number in
    let e = handed-is d c.index_mut.result.now.session c.deliver.new.self.session c.deliver.ensures.inbox c.deliver.ensures.room c.deliver.ensures.same in
    let net = its-net p ∙ ap (λ (z : ClientsParts). z.net) c.self.view_is in
    ap (clients_parts c.self.inside.tables.now) (changed p (handed d) c.deliver.new.self e)
    ∙ ap (λ (z : ClientsParts). clients_parts z.net (at_client c.args.client (handed d) c.args.self.now.sessions)) c.self.view_is
    ∙ ap (λ z. clients_parts c.args.self.now.net (at_client c.args.client (handed (delivery_at (known_deliveries z.clients) c.args.number)) c.args.self.now.sessions)) net
