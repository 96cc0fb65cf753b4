use Rattle.base_bits.proofs.Common.{four-some, four-none}
use Rattle.base_bits.proofs.words.four.Goals as goal

pub returns-clause-some : goal.returns-clause-some
returns-clause-some c = four-some c.args.a.now c.args.b.now c.args.k

pub returns-clause-none : goal.returns-clause-none
returns-clause-none c = four-none c.args.a.now c.args.b.now c.args.k
