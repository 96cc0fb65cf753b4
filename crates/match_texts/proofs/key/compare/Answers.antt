use Rattle.std.proofs.Common.{sym, arith}
use Rattle.match_texts.proofs.Packed.{less-head, greater-head}
use Rattle.match_texts.proofs.key.compare.Goals as goal

pub returns-then-head-other : goal.returns-then-head-other
returns-then-head-other c = sym (less-head c.args.x.now c.args.y.now c.lemma_bytes.ensures c.lemma_bytes-2.ensures (omega (arith, c.requires.head, c.requires.other, c.if-head-other.true)))

pub returns-then-other-head : goal.returns-then-other-head
returns-then-other-head c = sym (greater-head c.args.x.now c.args.y.now c.lemma_bytes.ensures c.lemma_bytes-2.ensures (omega (arith, c.requires.head, c.requires.other, c.if-other-head.true)))
