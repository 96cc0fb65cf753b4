use Rattle.std.proofs.Common.{arith, rules}
use Rattle.base_bits.proofs.Bits.{bit-past}
use Rattle.base_bits.proofs.Common.{looks-first, looks-next, looks-none, found-fits, found-from, found, found-least}
use Rattle.base_bits.proofs.words.next_common.Goals as goal

pub returns-then-at-a-clause-none : goal.returns-then-at-a-clause-none
returns-then-at-a-clause-none c k l = let z = bit-past c.args.a.now k (omega arith) in omega (arith, z)

pub loop-word-init : goal.loop-word-init
loop-word-init c = looks-first c.args.a.now c.args.b.now c.args.from (λ j. search (rules, c.type_inv.a)) (omega arith)

pub returns-then-at-a-2-clause-none : goal.returns-then-at-a-2-clause-none
returns-then-at-a-2-clause-none c = looks-none c.args.a.now c.args.b.now c.args.from (λ j. search (rules, c.type_inv.a)) c.loop-word.at c.loop-word.word c.loop-word.invariant (omega arith) (omega arith)

pub loop-word-preserved : goal.loop-word-preserved
loop-word-preserved c =
    let i = c.loop-word.invariant in
    let w = i.within in
    looks-next c.args.a.now c.args.b.now c.args.from (λ j. search (rules, c.type_inv.a)) c.loop-word.at c.loop-word.word i (omega arith) (omega arith)

pub overflow_add-result : goal.overflow_add-result
overflow_add-result c =
    let i = c.loop-word.invariant in
    let w = i.within in
    omega (arith, found-fits c.args.a.now c.args.b.now c.args.from (λ j. search (rules, c.type_inv.a)) c.loop-word.at c.loop-word.word i (omega arith))

pub returns-clause-some : goal.returns-clause-some
returns-clause-some c =
    let i = c.loop-word.invariant in
    let f = found c.args.a.now c.args.b.now c.args.from (λ j. search (rules, c.type_inv.a)) c.loop-word.at c.loop-word.word i (omega arith) in
    (found-from c.args.a.now c.args.b.now c.args.from (λ j. search (rules, c.type_inv.a)) c.loop-word.at c.loop-word.word i (omega arith), f.0, f.1)

pub returns-clause-least : goal.returns-clause-least
returns-clause-least c = found-least c.args.a.now c.args.b.now c.args.from (λ j. search (rules, c.type_inv.a)) c.loop-word.at c.loop-word.word c.loop-word.invariant (omega arith)
