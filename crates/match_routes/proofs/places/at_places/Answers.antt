use Rattle.std.proofs.Common.{◌<◌, length, arith}
use Rattle.std.proofs.lemmas.Grind.{get_or_default_zero}
use Rattle.match_routes.proofs.Joined.{place-within, listed-rising, listed-all}
use Rattle.match_routes.proofs.places.at_places.Goals as goal

pub bounds-interfaces-index : goal.bounds-interfaces-index
bounds-interfaces-index c =
    let places = c.args.places.items in
    let route = c.loop-k.route.items in
    let v = c.loop-k.invariant in
    let small : c.loop-k.k < length places = omega (arith, c.loop-k-test.true, c.len-k-end.ensures) in
    let l = place-within places c.args.interfaces.now c.loop-k.k route v c.requires.interfaces c.requires.places c.requires.within small in
    omega (arith, l, c.index.ensures, get_or_default_zero route c.loop-k.k c.index.result.now (omega (arith, small, v.long)))

pub returns-clause-rising : goal.returns-clause-rising
returns-clause-rising c =
    listed-rising c.args.places.items c.args.interfaces.now c.loop-k.k c.loop-k.route.items c.loop-k.invariant c.requires.interfaces c.requires.places
    c.requires.within (omega (arith, c.len-k-end.ensures, c.loop-k.invariant.long, c.loop-k-test.false))

pub returns-clause-exact : goal.returns-clause-exact
returns-clause-exact c =
    listed-all c.args.places.items c.args.interfaces.now c.loop-k.k c.loop-k.route.items c.loop-k.invariant c.requires.interfaces c.requires.places
    c.requires.within (omega (arith, c.len-k-end.ensures, c.loop-k.invariant.long, c.loop-k-test.false))
