use Rattle.std.proofs.Common.{◌<◌, ◌≤◌, length, refl, arith}
use Rattle.std.proofs.lemmas.Option.{slice_get_read}
use Rattle.sequential_network.proofs.Turning.{going-here, going-next, going-end}
use Rattle.sequential_network.proofs.begin.exchange.Goals as goal

pub exchange-requires : goal.exchange-requires
exchange-requires c =
    let within : c.loop-i.i < length c.loop-i.places.items = omega (arith, c.loop-i-test.true, c.len-i-end.ensures, c.loop-i.invariant.long) in
    let within-back : c.loop-i.i < length c.loop-i.standings.items = omega (arith, c.loop-i-test.true, c.len-i-end.ensures, c.requires.long, c.loop-i.invariant.long_back) in
    let at = slice_get_read c.loop-i.places.items (length c.loop-i.places.items) c.loop-i.i c.index_mut.result.now refl within c.index_mut.ensures.value in
    let back = slice_get_read c.loop-i.standings.items (length c.loop-i.standings.items) c.loop-i.i c.index_mut-in-loop-i.result.now refl within-back c.index_mut-in-loop-i.ensures.value in
    (going-here c.loop-i.i c.args.standings.now.items c.args.places.now.items c.loop-i.standings.items c.loop-i.places.items c.index_mut-in-loop-i.result.now c.index_mut.result.now c.loop-i.invariant c.requires back at).0

pub loop-i-preserved : goal.loop-i-preserved
loop-i-preserved c =
    let within : c.loop-i.i < length c.loop-i.places.items = omega (arith, c.loop-i-test.true, c.len-i-end.ensures, c.loop-i.invariant.long) in
    let within-back : c.loop-i.i < length c.loop-i.standings.items = omega (arith, c.loop-i-test.true, c.len-i-end.ensures, c.requires.long, c.loop-i.invariant.long_back) in
    let at = slice_get_read c.loop-i.places.items (length c.loop-i.places.items) c.loop-i.i c.index_mut.result.now refl within c.index_mut.ensures.value in
    let back = slice_get_read c.loop-i.standings.items (length c.loop-i.standings.items) c.loop-i.i c.index_mut-in-loop-i.result.now refl within-back c.index_mut-in-loop-i.ensures.value in
    let here = going-here c.loop-i.i c.args.standings.now.items c.args.places.now.items c.loop-i.standings.items c.loop-i.places.items c.index_mut-in-loop-i.result.now c.index_mut.result.now c.loop-i.invariant c.requires back at in
    going-next c.loop-i.i c.args.standings.now.items c.args.places.now.items c.loop-i.standings.items c.loop-i.places.items c.index_mut-in-loop-i.result.now c.exchange.new.standing c.index_mut.result.now c.exchange.new.self
    c.loop-i.invariant here.1 here.2 within-back within c.exchange.ensures

pub returns : goal.returns
returns c =
    let end : length c.args.places.now.items ≤ c.loop-i.i = omega (arith, c.loop-i-test.false, c.len-i-end.ensures) in
    going-end c.loop-i.i c.args.standings.now.items c.args.places.now.items c.loop-i.standings.items c.loop-i.places.items end c.loop-i.invariant
