use Rattle.std.proofs.Common.{arith, rules}
use Rattle.base_bits.proofs.Bits.{apart-bits}
use Rattle.base_bits.proofs.Common.{meeting}
use Rattle.base_bits.proofs.words.meet.Goals as goal

pub returns-then-four-ne0-clause-some : goal.returns-then-four-ne0-clause-some
returns-then-four-ne0-clause-some c e =
    let w = c.four.ensures.some (omega arith) in
    meeting c.args.a.now c.args.b.now w.0 w.1 (λ j. search (rules, c.type_inv.a))

pub returns-then-a-j-ne0-clause-some : goal.returns-then-a-j-ne0-clause-some
returns-then-a-j-ne0-clause-some c e = meeting c.args.a.now c.args.b.now c.loop-j.j (omega arith) (λ j. search (rules, c.type_inv.a))

pub returns-clause-none : goal.returns-clause-none
returns-clause-none c e = apart-bits c.args.a.now c.args.b.now c.requires (λ j l. c.loop-j.invariant j (omega arith))
