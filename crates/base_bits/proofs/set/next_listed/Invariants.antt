use Rattle.std.proofs.Common.{◌<◌, ℕ, get_or}
use Rattle.base_bits.proofs.set.next_listed.Given as goal

abbrev pub invariant-loop-k : goal.invariant-loop-k
invariant-loop-k l = (j : ℕ) → j < l.k → get_or l.list j 0 < l.from
