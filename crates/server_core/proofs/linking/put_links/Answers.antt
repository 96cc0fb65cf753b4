use Rattle.std.proofs.Common.{refl, subst, sym, ◌∙◌}
use Rattle.std.proofs.lemmas.Option.{slice_get_read}
use Rattle.base.specs.Sets.{Has}
use Rattle.server_spec.specs.declared.control.HeldLink.{HeldLink}
use Rattle.server_control.specs.Held.{NetHeld, held_in}
use Rattle.server_core.specs.Putting.{ArePut}
use Rattle.server_core.proofs.Putting.{put-next}
use Rattle.server_core.proofs.Relinks.{held-at, all-held, put-begin}
use Rattle.server_core.proofs.linking.put_links.Goals as goal
use Rattle.base.proofs.Sets.{get-has, map-has}

pub loop-one-init : goal.loop-one-init
loop-one-init c = put-begin (held_in c.args.held.now) c.args.ledger.now

pub put-requires-clause-interface : goal.put-requires-clause-interface
put-requires-clause-interface c =
    let at = slice_get_read c.args.held.now _ c.loop-one.one-index c.one-item.result refl c.loop-one-test.true c.one-item.is in
    let here = map-has (λ (h : NetHeld). h.held) c.args.held.now c.one-item.result (get-has c.args.held.now c.loop-one.one-index c.one-item.result at) in
    subst (Has c.one-item.result.held.link) (sym c.loop-one.invariant.interfaces) (c.requires.interfaces c.one-item.result.held.link (map-has (λ (h : HeldLink). h.link) (held_in c.args.held.now) c.one-item.result.held here))

pub put-requires-clause-net : goal.put-requires-clause-net
put-requires-clause-net c =
    let at = slice_get_read c.args.held.now _ c.loop-one.one-index c.one-item.result refl c.loop-one-test.true c.one-item.is in
    c.requires.net c.one-item.result (get-has c.args.held.now c.loop-one.one-index c.one-item.result at) ∙ sym c.loop-one.invariant.net

pub loop-one-preserved : goal.loop-one-preserved
loop-one-preserved c =
    let at = slice_get_read c.args.held.now _ c.loop-one.one-index c.one-item.result refl c.loop-one-test.true c.one-item.is in
    put-next (held_in c.args.held.now) c.loop-one.one-index c.one-item.result.held c.args.ledger.now c.loop-one.ledger c.put.new.self (held-at c.args.held.now c.loop-one.one-index c.one-item.result at) c.loop-one.invariant c.in_ok-put.ensures

pub returns : goal.returns
returns c = subst (λ z. ArePut z c.args.ledger.now c.loop-one.ledger) (all-held c.args.held.now c.loop-one.one-index c.loop-one-test.false) c.loop-one.invariant
