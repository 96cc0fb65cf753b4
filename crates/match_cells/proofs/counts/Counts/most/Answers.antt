use Rattle.std.proofs.Common.{◌≡◌, ◌<◌, ◌-◌, ℕ, arith, w64}
use Rattle.std.specs.Int.{bit_at, bit_not}
use Rattle.std.proofs.lemmas.Nat.Bits.{bit_at-zero, bit_at_not}
use Rattle.match_cells.specs.Counts.{count_at}
use Rattle.match_cells.proofs.counts.Counts.most.Goals as goal

all-ones : (q : ℕ) → q < 64 → bit_at 18446744073709551615 q ≡ 1
all-ones q l = let n : bit_at (bit_not w64 0) q ≡ 1 - bit_at 0 q = bit_at_not w64 0 q (omega arith) l in omega (arith, n, bit_at-zero q)

pub returns : goal.returns
unfolding count_at
returns c q l = omega (arith, all-ones q l)
