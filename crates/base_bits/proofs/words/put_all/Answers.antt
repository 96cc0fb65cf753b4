use Rattle.std.proofs.Common.{arith}
use Rattle.base_bits.proofs.Bits.{or-bits}
use Rattle.base_bits.proofs.words.put_all.Goals as goal

pub returns-clause-bits : goal.returns-clause-bits
returns-clause-bits c = or-bits c.args.into.now c.args.from.now c.loop-k.into c.loop-k.invariant.long c.requires (λ j l. c.loop-k.invariant.done j (omega arith))
