use Rattle.std.proofs.Common.{arith, rules}
use Rattle.base_bits.proofs.Bits.{and_not-bits}
use Rattle.base_bits.proofs.words.take_all.Goals as goal

pub returns-clause-bits : goal.returns-clause-bits
returns-clause-bits c = and_not-bits c.args.into.now c.args.from.now c.loop-k.into c.loop-k.invariant.long c.requires (λ j. search (rules, c.type_inv.from)) (λ j l. c.loop-k.invariant.done j (omega arith))
