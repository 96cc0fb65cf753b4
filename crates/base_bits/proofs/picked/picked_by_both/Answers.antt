use Rattle.std.proofs.Common.{◌*◌, ◌+◌, ◌<◌, length, arith, rules}
use Rattle.base_bits.proofs.Picks.{of-both, up-first, up-more, up-all}
use Rattle.base_bits.proofs.picked.picked_by_both.Goals as goal

pub loop-k-init : goal.loop-k-init
loop-k-init c = up-first c.args.words.now c.args.from c.args.a.now c.args.b.now

pub picked-all-requires : goal.picked-all-requires
picked-all-requires c p h =
    let k = c.loop-k.k in
    let f = of-both c.args.words.now c.args.from c.args.a.now c.args.b.now (λ j. search (rules, c.type_inv.a)) k p h in
    let l : c.args.from + (k * 64 + p) < length c.args.words.now = c.requires.within (k * 64 + p) f.1 in
    omega (arith, l)

pub loop-k-preserved : goal.loop-k-preserved
loop-k-preserved c =
    up-more c.args.words.now c.args.from c.args.a.now c.args.b.now (λ j. search (rules, c.type_inv.a)) c.loop-k.k c.loop-k.all c.picked-all.result c.loop-k.invariant
    c.picked-all.ensures

pub returns : goal.returns
returns c = up-all c.args.words.now c.args.from c.args.a.now c.args.b.now c.loop-k.k c.loop-k.all (omega arith) c.loop-k.invariant
