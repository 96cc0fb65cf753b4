use Rattle.base_bits.proofs.ListPicks.{HavePicked}
use Rattle.base_bits.proofs.picked.picked_by_list.Given as goal

abbrev pub invariant-loop-k : goal.invariant-loop-k
invariant-loop-k l = HavePicked l.words l.from l.list l.set l.k l.all
