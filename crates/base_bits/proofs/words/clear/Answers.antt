use Rattle.std.proofs.Common.{arith}
use Rattle.base_bits.proofs.Bits.{no-bits}
use Rattle.base_bits.proofs.words.clear.Goals as goal

pub returns-clause-bits : goal.returns-clause-bits
returns-clause-bits c = no-bits c.loop-k.words (λ j l. c.loop-k.invariant.done j (omega arith))
