use Rattle.std.proofs.Common.{◌≡◌, ◌<◌, length, slice_get, slice_set, slice_index_or, take, Some, refl, sym, ap, ◌∙◌, arith, rules}
use Rattle.std.proofs.lemmas.Option.{slice_get_read}
use Rattle.sequential_network.proofs.Last.{index-has}
use Rattle.hierarchy_network.proofs.Raised.{set-more, next-there, clocks-long, clock-at}
use Rattle.hierarchy_network.proofs.clocks.set_clocks.Goals as goal

pub index_mut-requires : goal.index_mut-requires
index_mut-requires c =
    let long : length c.loop-i.places.items ≡ length c.args.clocks.now =
    ap length c.loop-i.invariant ∙ clocks-long (take c.loop-i.i c.args.clocks.now) c.args.places.now.items ∙ sym c.requires.long in
    let less = c.loop-i-test.true in
    search (rules, long, less)

pub raise-requires : goal.raise-requires
raise-requires c = c.requires.low (slice_index_or c.args.clocks.now c.loop-i.i 0) (index-has c.args.clocks.now c.loop-i.i c.loop-i-test.true)

pub loop-i-preserved : goal.loop-i-preserved
loop-i-preserved c =
    let clocks = c.args.clocks.now in
    let old = c.args.places.now.items in
    let clock = slice_index_or clocks c.loop-i.i 0 in
    let parts = c.index_mut.result.now in
    let within : c.loop-i.i < length c.loop-i.places.items =
    omega (arith, c.loop-i-test.true, ap length c.loop-i.invariant ∙ clocks-long (take c.loop-i.i clocks) old ∙ sym c.requires.long) in
    let at = slice_get_read c.loop-i.places.items (length c.loop-i.places.items) c.loop-i.i parts refl within c.index_mut.ensures.value in
    let was : slice_get old c.loop-i.i ≡ Some parts = sym (next-there clocks old c.loop-i.i) ∙ (ap (λ z. slice_get z c.loop-i.i) (sym c.loop-i.invariant) ∙ at) in
    (λ k. slice_set (c.loop-i.invariant k) c.loop-i.i (c.raise.ensures k)) ∙ set-more clocks old c.loop-i.i clock parts (clock-at clocks c.loop-i.i c.loop-i-test.true) was
