use Rattle.base_bits.proofs.Grids.{IsJoinedUpTo}
use Rattle.base_bits.proofs.grid.joined_bits.Given as goal

abbrev pub invariant-loop-k : goal.invariant-loop-k
invariant-loop-k l = IsJoinedUpTo l.words l.count l.numbers.members l.others.members l.k l.list.items
