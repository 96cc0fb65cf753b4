use Rattle.std.proofs.Common.{◌≡◌, ℕ, ◌<◌, ◌≤◌, length, get_or}
use Rattle.base_bits.proofs.words.copy.Given as goal

abbrev pub invariant-loop-k : goal.invariant-loop-k
invariant-loop-k l =
    record {
      long : length l.into ≡ length l.fn.into;
      done : (j : ℕ) → j < l.k → get_or l.into j 0 ≡ get_or l.from j 0;
      rest : (j : ℕ) → l.k ≤ j → get_or l.into j 0 ≡ get_or l.fn.into j 0;
    }
