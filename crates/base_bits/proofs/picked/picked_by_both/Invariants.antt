use Rattle.base_bits.proofs.Picks.{PicksUpTo}
use Rattle.base_bits.proofs.picked.picked_by_both.Given as goal

abbrev pub invariant-loop-k : goal.invariant-loop-k
invariant-loop-k l = PicksUpTo l.words l.from l.a l.b l.k l.all
