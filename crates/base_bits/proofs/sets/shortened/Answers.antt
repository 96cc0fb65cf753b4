use Rattle.std.proofs.Common.{get_or, arith}
use Rattle.base.proofs.Sets.{get_or-has}
use Rattle.base_bits.proofs.sets.shortened.Goals as goal

pub overflow_cast-numbers : goal.overflow_cast-numbers
overflow_cast-numbers c =
    let l = c.requires (get_or c.args.numbers.now c.loop-k.k 0) (get_or-has c.args.numbers.now c.loop-k.k 0 (omega arith)) in
    omega (arith, l)
