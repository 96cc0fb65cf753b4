use Rattle.std.proofs.Common.{arith}
use Rattle.std.proofs.lemmas.Nat.Bits.{bit_at-zero}
use Rattle.match_cells.specs.Counts.{count_at}
use Rattle.match_cells.proofs.counts.Counts.zero.Goals as goal

pub returns : goal.returns
unfolding count_at
returns c q = omega (arith, bit_at-zero q)
