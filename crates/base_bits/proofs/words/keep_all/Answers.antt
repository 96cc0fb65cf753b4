use Rattle.std.proofs.Common.{arith}
use Rattle.base_bits.proofs.Bits.{and-bits}
use Rattle.base_bits.proofs.words.keep_all.Goals as goal

pub returns-clause-bits : goal.returns-clause-bits
returns-clause-bits c = and-bits c.args.into.now c.args.from.now c.loop-k.into c.loop-k.invariant.long c.requires (λ j l. c.loop-k.invariant.done j (omega arith))
