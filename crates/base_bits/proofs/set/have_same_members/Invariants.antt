use Rattle.std.proofs.Common.{◌-◌}
use Rattle.base_bits.proofs.Alike.{AreSameBelow}
use Rattle.base_bits.proofs.set.have_same_members.Given as goal

abbrev pub invariant-loop-number : goal.invariant-loop-number
invariant-loop-number l = AreSameBelow l.one.members l.other.members l.at

abbrev pub decreases-loop-number : goal.decreases-loop-number
decreases-loop-number l = l.one.width - l.at
