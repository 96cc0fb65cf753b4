use Rattle.std.proofs.Common.{◌∷◌, [], ◌+◌, get_or, subst, sym, ap, ◌∙◌, arith}
use Rattle.std.proofs.lemmas.Option.{slice_get-get_or}
use Rattle.base.specs.Sets.{Has}
use Rattle.server_spec.specs.declared.control.HeldLink.{HeldLink}
use Rattle.server_core.specs.Putting.{ArePut, held_by, held_by_clients}
use Rattle.server_core.proofs.Putting.{put-next}
use Rattle.server_core.proofs.Relinks.{clients-at, all-clients, put-begin}
use Rattle.server_core.proofs.linking.put_clients.Goals as goal
use Rattle.base.proofs.Sets.{get-has}

pub loop-client-init : goal.loop-client-init
loop-client-init c = put-begin (held_by_clients c.args.from.now.control c.args.clients.now) c.args.ledger.now

pub put-requires-clause-interface : goal.put-requires-clause-interface
put-requires-clause-interface c =
    let n = get_or c.args.clients.now c.loop-client.client-index 0 in
    let at = slice_get-get_or c.args.clients.now c.loop-client.client-index 0 c.loop-client-test.true in
    let here = get-has c.args.clients.now c.loop-client.client-index n at in
    subst (λ (z : HeldLink). Has z.link c.loop-client.ledger.interfaces) (sym (c.in_ok-held.ensures.held ∙ ap (held_by c.args.from.now.control) c.interface_of.ensures)) (subst (Has (64 + n)) (sym c.loop-client.invariant.interfaces) (c.requires.interfaces n here))

pub put-requires-clause-net : goal.put-requires-clause-net
put-requires-clause-net c = c.in_ok-held.ensures.net ∙ (c.requires.net ∙ sym c.loop-client.invariant.net)

pub loop-client-preserved : goal.loop-client-preserved
loop-client-preserved c =
    let n = get_or c.args.clients.now c.loop-client.client-index 0 in
    let at = slice_get-get_or c.args.clients.now c.loop-client.client-index 0 c.loop-client-test.true in
    put-next (held_by_clients c.args.from.now.control c.args.clients.now) c.loop-client.client-index (held_by c.args.from.now.control (64 + n)) c.args.ledger.now c.loop-client.ledger c.put.new.self
    (clients-at c.args.from.now.control c.args.clients.now c.loop-client.client-index n at) c.loop-client.invariant
    (subst (λ z. ArePut (z ∷ []) c.loop-client.ledger c.put.new.self) (c.in_ok-held.ensures.held ∙ ap (held_by c.args.from.now.control) c.interface_of.ensures) c.in_ok-put.ensures)

pub returns : goal.returns
returns c = subst (λ z. ArePut z c.args.ledger.now c.loop-client.ledger) (all-clients c.args.from.now.control c.args.clients.now c.loop-client.client-index c.loop-client-test.false) c.loop-client.invariant

pub interface_of-requires : goal.interface_of-requires
interface_of-requires c =
    let n = get_or c.args.clients.now c.loop-client.client-index 0 in
    let at = slice_get-get_or c.args.clients.now c.loop-client.client-index 0 c.loop-client-test.true in
    let few = c.requires.few n (get-has c.args.clients.now c.loop-client.client-index n at) in
    omega (arith, few)
