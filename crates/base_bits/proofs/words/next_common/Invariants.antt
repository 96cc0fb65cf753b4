use Rattle.std.proofs.Common.{◌-◌, length}
use Rattle.base_bits.proofs.Common.{Looks}
use Rattle.base_bits.proofs.words.next_common.Given as goal

abbrev pub invariant-loop-word : goal.invariant-loop-word
invariant-loop-word l = Looks l.a l.b l.from l.at l.word

abbrev pub decreases-loop-word : goal.decreases-loop-word
decreases-loop-word l = length l.a - l.at
