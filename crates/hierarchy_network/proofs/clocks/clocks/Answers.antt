use Rattle.std.proofs.Common.{◌<◌, ◌^◌, length, refl, ap, ◌∙◌, arith}
use Rattle.std.proofs.lemmas.Option.{slice_get_read}
use Rattle.hierarchy_network.specs.Core.{HierarchyParts}
use Rattle.hierarchy_network.proofs.Raised.{clock-more, low-more}
use Rattle.hierarchy_network.proofs.clocks.clocks.Goals as goal

pub loop-place-preserved : goal.loop-place-preserved
loop-place-preserved c =
    let at = slice_get_read c.args.places.now (length c.args.places.now) c.loop-place.place-index c.place-item.result refl c.loop-place-test.true c.place-item.is in
    let clock-is = c.clock.ensures.clock ∙ ap (λ (z : HierarchyParts). z.core.clock) c.core.ensures in
    let low : c.max.result < 2 ^ 62 = omega (arith, c.max.ensures, c.clock.ensures.below, c.requires) in (
      clock-more c.args.least c.args.places.now c.loop-place.place-index c.place-item.result c.max.result c.loop-place.clocks.items c.push.new.self.items at
          (omega (arith, c.max.ensures, clock-is)) c.in_ok-push.ensures.items c.loop-place.invariant.0,
      low-more c.loop-place.clocks.items c.push.new.self.items c.max.result (2 ^ 62) c.in_ok-push.ensures.items c.loop-place.invariant.1 low,
    )
