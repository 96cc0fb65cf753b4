use Rattle.std.proofs.Common.{◌≡◌, ℕ, ◌-◌, ◌<◌, ◌≤◌, length, get_or, bit_and}
use Rattle.base_bits.proofs.words.meet.Given as goal

abbrev pub invariant-loop-k : goal.invariant-loop-k
invariant-loop-k l =
    record {
      within : l.k ≤ length l.a;
      none : (j : ℕ) → j < l.k → bit_and (get_or l.a j 0) (get_or l.b j 0) ≡ 0;
    }

abbrev pub decreases-loop-k : goal.decreases-loop-k
decreases-loop-k l = length l.a - l.k

abbrev pub invariant-loop-j : goal.invariant-loop-j
invariant-loop-j l = (j : ℕ) → j < l.j → bit_and (get_or l.a j 0) (get_or l.b j 0) ≡ 0
