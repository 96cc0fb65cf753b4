use Rattle.sequential_network.proofs.making.is_among.Goals as goal
use Rattle.base.proofs.Sets.{any-iff-has}

pub returns : goal.returns
returns c = any-iff-has c.args.number c.args.list.now c.contains.result c.contains.ensures.value
