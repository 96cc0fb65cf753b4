use Rattle.std.proofs.Common.{◌≡◌, ◌-◌, ◌∙◌, take, get_or, sym, ap, subst}
use Rattle.base.specs.Sets.{Has}
use Rattle.net_inbox.specs.Inbox.{delivery_at}
use Rattle.net_tables.specs.Found.{known_deliveries}
use Rattle.server_spec.proofs.Taken.{take-all}
use Rattle.server_core.specs.Clients.{ClientsParts, clients_parts, at_client, handed}
use Rattle.server_core.specs.Acting.{clients_on}
use Rattle.server_core.proofs.Going.{all_handed, handed-none, handed-more, handed-all, next-room, clients-skip, clients-more, clients-rise, low-link, high-client, got-number}
use Rattle.server_core.proofs.spreading.deliver.Goals as goal

pub loop-interface-init : goal.loop-interface-init
loop-interface-init c = ap (clients_parts c.args.clients.now.net) (handed-none (delivery_at (known_deliveries c.args.clients.now.net.clients) c.args.number) c.args.clients.now.sessions)

pub loop-interface-preserved-then-is_link : goal.loop-interface-preserved-then-is_link
loop-interface-preserved-then-is_link c =
    let x = get_or c.args.route.now c.loop-interface.interface-index 0 in
    let d = delivery_at (known_deliveries c.args.clients.now.net.clients) c.args.number in
    let same = clients-skip c.args.route.now c.loop-interface.interface-index x (got-number c.args.route.now c.loop-interface.interface-index c.loop-interface-test.true) (low-link c.is_link.result x c.is_link.ensures c.if-is_link.true) in
    c.loop-interface.invariant ∙ ap (λ z. clients_parts c.args.clients.now.net (all_handed d z c.args.clients.now.sessions)) (sym same)

pub deliver-requires-clause-room : goal.deliver-requires-clause-room
deliver-requires-clause-room c =
    let x = get_or c.args.route.now c.loop-interface.interface-index 0 in
    let d = delivery_at (known_deliveries c.args.clients.now.net.clients) c.args.number in
    λ s m e. next-room d c.args.route.now c.loop-interface.interface-index x c.args.clients.now.sessions c.requires.rising
    (got-number c.args.route.now c.loop-interface.interface-index c.loop-interface-test.true) (high-client c.is_link.result x c.is_link.ensures c.if-is_link.false)
    c.requires.room s (subst (λ (z : ClientsParts). Has s z.sessions) c.loop-interface.invariant m) (e ∙ c.client_of.ensures)

pub loop-interface-preserved : goal.loop-interface-preserved
loop-interface-preserved c =
    let x = get_or c.args.route.now c.loop-interface.interface-index 0 in
    let d = delivery_at (known_deliveries c.args.clients.now.net.clients) c.args.number in
    let before = clients_on (take c.loop-interface.interface-index c.args.route.now) in
    let more = clients-more c.args.route.now c.loop-interface.interface-index x (got-number c.args.route.now c.loop-interface.interface-index c.loop-interface-test.true) (high-client c.is_link.result x c.is_link.ensures c.if-is_link.false) in
    c.deliver.ensures
    ∙ ap (λ z. clients_parts c.loop-interface.clients.net (at_client z (handed (delivery_at (known_deliveries c.loop-interface.clients.net.clients) c.args.number)) c.loop-interface.clients.sessions)) c.client_of.ensures
    ∙ ap (λ (z : ClientsParts). clients_parts z.net (at_client (x - 64) (handed (delivery_at (known_deliveries z.net.clients) c.args.number)) z.sessions)) c.loop-interface.invariant
    ∙ ap (clients_parts c.args.clients.now.net) (handed-more d before (x - 64) c.args.clients.now.sessions)
    ∙ ap (λ z. clients_parts c.args.clients.now.net (all_handed d z c.args.clients.now.sessions)) (sym more)

pub returns : goal.returns
returns c =
    let d = delivery_at (known_deliveries c.args.clients.now.net.clients) c.args.number in
    c.loop-interface.invariant
    ∙ ap (λ z. clients_parts c.args.clients.now.net (all_handed d (clients_on z) c.args.clients.now.sessions)) (take-all c.args.route.now c.loop-interface.interface-index c.loop-interface-test.false)
    ∙ ap (clients_parts c.args.clients.now.net) (handed-all d (clients_on c.args.route.now) c.args.clients.now.sessions (clients-rise c.args.route.now c.requires.rising))
