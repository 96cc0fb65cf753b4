use Rattle.std.proofs.Common.{◌++◌, ◌∷◌, [], map, refl, ap, ◌∙◌}
use Rattle.std.proofs.lemmas.Option.{slice_get_read}
use Rattle.server_spec.specs.declared.control.HeldLink.{HeldLink}
use Rattle.server_spec.proofs.Relinking.{map-next}
use Rattle.server_control.specs.Held.{held_in}
use Rattle.server_core.proofs.Relinks.{held-at, all-held}
use Rattle.server_core.proofs.linking.links_of.Goals as goal

pub loop-one-preserved : goal.loop-one-preserved
loop-one-preserved c =
    let at = held-at c.args.held.now c.loop-one.one-index c.one-item.result (slice_get_read c.args.held.now _ c.loop-one.one-index c.one-item.result refl c.loop-one-test.true c.one-item.is) in
    c.in_ok-push.ensures.items ∙ (ap (λ z. c.loop-one.links.items ++ z ∷ []) c.link.ensures
    ∙ map-next (λ (h : HeldLink). h.link) (held_in c.args.held.now) c.loop-one.one-index c.one-item.result.held c.loop-one.links.items at c.loop-one.invariant)

pub returns : goal.returns
returns c = c.loop-one.invariant ∙ ap (map (λ (h : HeldLink). h.link)) (all-held c.args.held.now c.loop-one.one-index c.loop-one-test.false)
