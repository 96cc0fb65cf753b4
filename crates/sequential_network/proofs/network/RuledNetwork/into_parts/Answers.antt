use Rattle.std.proofs.Common.{◌≡◌, refl, sym, ap, subst, ◌∙◌}
use Rattle.net_model.specs.Parts.{NetParts}
use Rattle.net_model.specs.Nets.{of_clients}
use Rattle.net_model.specs.Sound.{IsSound}
use Rattle.net_tables.specs.Found.{known_deliveries}
use Rattle.net_turns.specs.Network.{NetworkParts}
use Rattle.sequential_network.specs.Inboxes.{HaveInboxes}
use Rattle.sequential_network.specs.Seen.{seen}
use Rattle.sequential_network.proofs.network.RuledNetwork.into_parts.Goals as goal

pub take_inboxes-requires : goal.take_inboxes-requires
take_inboxes-requires g c =
    let inside = c.self.inside in
    let given = g.P.Ruled.ruling.received_by inside.tables.now inside.servers.journal.entries in
    λ k. (
      (refl, tt),
      (
        subst IsSound (sym c.net.ensures) (c.lemma_laws.ensures.stands inside.tables.now inside.phase (seen inside.servers) c.self.invariant.0).sound,
        (
          c.deliveries.ensures ∙ ap (λ (n : NetParts). known_deliveries n.clients) (sym c.net.ensures),
          (
            given,
            subst (λ (n : NetParts). HaveInboxes g.P.Server.stepping n given 0 inside.servers.places.items) (sym c.net.ensures)
                (c.lemma_laws.ensures.inboxes inside.tables.now inside.phase (seen inside.servers) c.self.invariant.0),
          ),
        ),
      ),
    )

pub returns-clause-received : goal.returns-clause-received
returns-clause-received g c =
    let inside = c.self.inside in
    let given = g.P.Ruled.ruling.received_by inside.tables.now inside.servers.journal.entries in
    let items = c.in_ok-received.received.items in
    subst (λ (z : NetworkParts). items ≡ of_clients z.net (g.P.Ruled.ruling.received_by z.net z.journal)) c.self.view_is
    (subst (λ (n : NetParts). items ≡ of_clients n given) c.net.ensures
    (c.in_ok-received.ensures.received given
    (subst (λ (n : NetParts). HaveInboxes g.P.Server.stepping n given 0 inside.servers.places.items) (sym c.net.ensures)
    (c.lemma_laws.ensures.inboxes inside.tables.now inside.phase (seen inside.servers) c.self.invariant.0))))
