use Rattle.base_bits.proofs.Picks.{PicksTo}
use Rattle.base_bits.proofs.picked.picked.Given as goal

abbrev pub invariant-loop-left : goal.invariant-loop-left
invariant-loop-left l = PicksTo l.words l.from l.bits l.left l.all

abbrev pub decreases-loop-left : goal.decreases-loop-left
decreases-loop-left l = l.left
