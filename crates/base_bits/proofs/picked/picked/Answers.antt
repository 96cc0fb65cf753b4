use Rattle.std.proofs.Common.{◌+◌, ◌<◌, length, arith, w64}
use Rattle.std.specs.Int.{trailing_zeros}
use Rattle.base_bits.proofs.Picks.{picks-place, picks-more, picks-all, picks-first}
use Rattle.base_bits.proofs.picked.picked.Goals as goal

pub loop-left-init : goal.loop-left-init
loop-left-init c = picks-first c.args.words.now c.args.from c.args.bits (omega arith)

pub bounds-words-from : goal.bounds-words-from
bounds-words-from c =
    let p = picks-place c.args.words.now c.args.from c.args.bits c.loop-left.left c.loop-left.all c.loop-left.invariant (omega arith) in
    c.requires (trailing_zeros w64 c.loop-left.left) p.1

pub offset_bounds-words-from : goal.offset_bounds-words-from
offset_bounds-words-from c =
    let p = picks-place c.args.words.now c.args.from c.args.bits c.loop-left.left c.loop-left.all c.loop-left.invariant (omega arith) in
    let l : c.args.from + trailing_zeros w64 c.loop-left.left < length c.args.words.now = c.requires (trailing_zeros w64 c.loop-left.left) p.1 in
    omega (arith, l)

pub overflow_add-all : goal.overflow_add-all
overflow_add-all c =
    let p = picks-place c.args.words.now c.args.from c.args.bits c.loop-left.left c.loop-left.all c.loop-left.invariant (omega arith) in
    let l : c.args.from + trailing_zeros w64 c.loop-left.left < length c.args.words.now = c.requires (trailing_zeros w64 c.loop-left.left) p.1 in
    omega (arith, l)

pub loop-left-preserved : goal.loop-left-preserved
loop-left-preserved c = picks-more c.args.words.now c.args.from c.args.bits c.loop-left.left c.loop-left.all c.loop-left.invariant (omega arith)

pub returns : goal.returns
returns c = picks-all c.args.words.now c.args.from c.args.bits c.loop-left.left c.loop-left.all c.loop-left.invariant (omega arith)
