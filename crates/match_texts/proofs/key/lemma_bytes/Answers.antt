use Rattle.std.proofs.Common.{arith}
use Rattle.match_texts.proofs.key.lemma_bytes.Goals as goal

pub returns : goal.returns
returns c = λ i. omega (arith, c.type_inv.x i)
