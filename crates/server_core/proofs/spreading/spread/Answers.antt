use Rattle.std.proofs.Common.{◌≡◌, map, sym, ap, subst, ◌∙◌}
use Rattle.base.specs.Sets.{Has}
use Rattle.net_inbox.specs.Inbox.{delivery_at}
use Rattle.net_tables.specs.Found.{delivery_of, known_deliveries, publication_at}
use Rattle.server_core.specs.Clients.{ClientsParts, bare}
use Rattle.server_core.specs.Acting.{clients_on, delivered}
use Rattle.server_core.proofs.Going.{delivered-alike, delivered-has}
use Rattle.server_core.proofs.spreading.spread.Goals as goal

its-delivery : (c : goal.After-deliver) → delivery_at (known_deliveries c.make_room.new.clients.net.clients) c.args.number ≡ delivery_of (publication_at c.args.tables.now c.args.number)
its-delivery c = ap (λ z. delivery_at (known_deliveries z.clients) c.args.number) (c.make_room.ensures.net ∙ c.requires.net) ∙ c.lemma_delivered.ensures.delivery

pub returns-clause-spread : goal.returns-clause-spread
returns-clause-spread c =
    let d = delivery_at (known_deliveries c.make_room.new.clients.net.clients) c.args.number in
    record {
      inboxes = ap (λ (z : ClientsParts). map bare z.sessions) c.deliver.ensures
          ∙ delivered-alike (clients_on c.args.route.now) d c.make_room.new.clients.sessions c.args.clients.now.sessions c.make_room.ensures.bare
          ∙ ap (λ z. map bare (delivered (clients_on c.args.route.now) z c.args.clients.now.sessions)) (its-delivery c);
      sent_are = c.in_ok-sent.ensures;
    }

pub returns-clause-planned : goal.returns-clause-planned
returns-clause-planned c =
    λ s m.
    let d = delivery_at (known_deliveries c.make_room.new.clients.net.clients) c.args.number in
    let a = delivered-has (clients_on c.args.route.now) d c.make_room.new.clients.sessions s (subst (λ (z : ClientsParts). Has s z.sessions) c.deliver.ensures m) in
    let b = c.make_room.ensures.planned a.0 a.1 in
    (b.0, b.1, b.2 ∙ a.2, b.3 ∙ a.3)
