use Rattle.std.proofs.Common.{◌≡◌, take}
use Rattle.base_bits.proofs.sets.shortened.Given as goal

abbrev pub invariant-loop-k : goal.invariant-loop-k
invariant-loop-k l = l.list.items ≡ take l.k l.numbers
