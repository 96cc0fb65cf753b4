use Rattle.std.proofs.Common.{◌≡◌, ◌+◌, ◌-◌, ◌++◌, ◌∷◌, [], slice_get, Some, false, take, sym, ap, subst, ◌∙◌, arith}
use Rattle.std.specs.List.Sorted.{IsStrictlyIncreasing}
use Rattle.net_model.specs.Parts.{ClientParts, NetParts}
use Rattle.server_spec.specs.Session.{session_parts}
use Rattle.server_session.specs.Session.{NetSession, net_session}
use Rattle.server_core.specs.Clients.{client_numbers, sessions_in, AreOf}
use Rattle.server_core.specs.Start.{session_of}
use Rattle.server_core.proofs.Starting.{IsHome, home-skip, home-more, numbers-rise, sessions-push, of-push}
use Rattle.server_core.proofs.start.at_home.Goals as goal
use Rattle.base.proofs.Lists.{get-get_or}

pub loop-client-preserved-then-client-server : goal.loop-client-preserved-then-client-server
loop-client-preserved-then-client-server c =
    let i = c.loop-client.invariant in
    let at = get-get_or c.deref-client-items.result.now c.loop-client.client-index c.client-item.result c.loop-client-test.true c.client-item.is in (
      home-skip c.args.tables.now.semantics c.args.server c.deref-client-items.result.now c.loop-client.client-index c.client-item.result c.loop-client.numbers.items (sessions_in c.loop-client.sessions.items) at
          (λ e. c.if-client-server.true (ap (λ (z : ClientParts). z.home) c.client.view_is ∙ e)) i.0,
      ap (λ z. z + 1) i.1,
      i.2,
    )

pub loop-client-preserved : goal.loop-client-preserved
loop-client-preserved c =
    let i = c.loop-client.invariant in
    let clients = c.deref-client-items.result.now in
    let same : clients ≡ c.args.tables.now.clients = c.deref-client-items.ensures.value ∙ (ap (λ (z : NetParts). z.clients) c.behind-tables.view_is ∙ ap (λ (z : NetParts). z.clients) c.net.ensures) in
    let at : slice_get clients c.loop-client.client-index ≡ Some c.client-item.result = get-get_or clients c.loop-client.client-index c.client-item.result c.loop-client-test.true c.client-item.is in
    let number : c.loop-client.number + 1 ≡ c.loop-client.client-index + 1 = ap (λ z. z + 1) i.1 in
    let place : c.loop-client.number + 1 - 1 ≡ c.loop-client.client-index = omega (arith, number) in
    let there : slice_get c.args.tables.now.clients (c.loop-client.number + 1 - 1) ≡ Some c.client-item.result =
    subst (λ z. slice_get c.args.tables.now.clients z ≡ Some c.client-item.result) (sym place) (subst (λ z. slice_get z c.loop-client.client-index ≡ Some c.client-item.result) same at) in
    let made : c.in_ok-start.field-0 ≡ net_session c.args.tables.now (session_parts (c.loop-client.number + 1) c.args.tables.now.semantics c.client-item.result.script 0 [] 0 false) = c.in_ok-start.ensures c.client-item.result there in
    let session : c.in_ok-start.field-0.session ≡ session_of c.args.tables.now.semantics (c.loop-client.client-index + 1) c.client-item.result =
    ap (λ (z : NetSession). z.session) made ∙ ap (λ z. session_parts z c.args.tables.now.semantics c.client-item.result.script 0 [] 0 false) number in
    let home : c.client-item.result.home ≡ c.args.server = sym (ap (λ (z : ClientParts). z.home) c.client.view_is) ∙ c.if-client-server.false in
    let next = home-more c.args.tables.now.semantics c.args.server clients c.loop-client.client-index c.client-item.result c.loop-client.numbers.items (sessions_in c.loop-client.sessions.items) c.in_ok-start.field-0.session at
    c.loop-client-test.true home session i.0 in (
      subst (λ z. IsHome c.args.tables.now.semantics c.args.server (take (c.loop-client.client-index + 1) clients) z (sessions_in c.push-in-loop-client.new.self.items))
          (sym (c.in_ok-push.ensures.items ∙ ap (λ z. c.loop-client.numbers.items ++ z ∷ []) number))
          (subst (λ z. IsHome c.args.tables.now.semantics c.args.server (take (c.loop-client.client-index + 1) clients) (c.loop-client.numbers.items ++ (c.loop-client.client-index + 1) ∷ []) z)
          (sym (ap sessions_in c.in_ok-push-2.ensures.items ∙ sessions-push c.loop-client.sessions.items c.in_ok-start.field-0)) next),
      number,
      subst (AreOf c.args.tables.now) (sym c.in_ok-push-2.ensures.items) (of-push c.args.tables.now c.loop-client.sessions.items c.in_ok-start.field-0 i.2 (ap (λ (z : NetSession). z.net) made)),
    )

pub of-requires-clause-rising : goal.of-requires-clause-rising
of-requires-clause-rising c =
    let home = c.loop-client.invariant.0 in
    subst IsStrictlyIncreasing (ap client_numbers (sym home.made) ∙ home.numbered) (numbers-rise c.args.tables.now.semantics c.args.server 1 (take c.loop-client.client-index c.deref-client-items.result.now))
