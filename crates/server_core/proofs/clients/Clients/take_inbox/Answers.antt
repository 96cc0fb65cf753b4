use Rattle.std.proofs.Common.{◌≡◌, ◌<◌, length, Some, slice_get, IfSome, sym, ap, subst, ◌∙◌}
use Rattle.server_spec.specs.Session.{SessionParts}
use Rattle.server_session.specs.Session.{NetSession}
use Rattle.net_inbox.specs.Inbox.{at_numbers}
use Rattle.net_tables.specs.Found.{known_deliveries}
use Rattle.server_core.specs.Clients.{ClientsParts, clients_parts, emptied, at_client}
use Rattle.server_core.proofs.Sessions.{IsPlace, changed, kept-numbers, kept-net, its-net, the-one}
use Rattle.server_core.proofs.clients.Clients.take_inbox.Goals as goal

here : (c : goal.After-self-1) → IsPlace c.self.inside.tables.now c.self.inside.sessions.items c.args.self.now.sessions c.self.inside.numbers.items c.unwrap-place.result c.args.client c.index_mut.result.now
here c =
    let within : c.unwrap-place.result < length c.args.self.now.sessions = subst (λ o. IfSome o (λ i. i < length c.args.self.now.sessions)) c.unwrap-place.ensures c.place.ensures.some in
    let named : (s : SessionParts) → slice_get c.args.self.now.sessions c.unwrap-place.result ≡ Some s → s.client ≡ c.args.client = subst (λ o. IfSome o (λ i. (s : SessionParts) → slice_get c.args.self.now.sessions i ≡ Some s → s.client ≡ c.args.client)) c.unwrap-place.ensures c.place.ensures.session in
    record { view = ap (λ (z : ClientsParts). z.sessions) c.self.view_is; numbered = c.self.invariant.0; rising = c.self.invariant.1; of = c.self.invariant.2; within = within; client = named; read = c.index_mut.ensures.value }

pub invariant_of-self : goal.invariant_of-self
invariant_of-self c = (
  kept-numbers (here c) c.take_inbox.new.self (ap (λ (z : NetSession). z.session.client) c.take_inbox.ensures.emptied),
  c.self.invariant.1,
  kept-net (here c) c.take_inbox.new.self (ap (λ (z : NetSession). z.net) c.take_inbox.ensures.emptied),
)

pub returns-clause-inbox : goal.returns-clause-inbox
returns-clause-inbox c = λ s m e.
    let net = its-net (here c) ∙ ap (λ (z : ClientsParts). z.net) c.self.view_is in
    ap (λ z. at_numbers (known_deliveries z.clients) c.take_inbox.result.items) (sym net) ∙ c.take_inbox.ensures.inbox ∙ ap (λ (z : SessionParts). z.inbox) (sym (the-one (here c) s m e))

pub returns-clause-emptied : goal.returns-clause-emptied
returns-clause-emptied c =
    ap (clients_parts c.self.inside.tables.now) (changed (here c) emptied c.take_inbox.new.self (ap (λ (z : NetSession). z.session) c.take_inbox.ensures.emptied))
    ∙ ap (λ (z : ClientsParts). clients_parts z.net (at_client c.args.client emptied c.args.self.now.sessions)) c.self.view_is
