use Rattle.std.proofs.lemmas.Nat.Bits.{bit_at-lt}
use Rattle.match_cells.specs.Counts.{count_at}
use Rattle.match_cells.proofs.Adding.{four-more}
use Rattle.match_cells.proofs.counts.Counts.with_four.Goals as goal

pub returns : goal.returns
unfolding count_at
returns c q =
    four-more _ _ _ _ _ _ _ _ _ _ _ _ _ _ _ _ _ _ _ _ _
    (bit_at-lt c.full-ones-2.result.0 q) (bit_at-lt c.full-twos.result.0 q) (bit_at-lt c.half-fours.result.0 q) (bit_at-lt c.half-eights.result.0 q) (bit_at-lt c.half-sixteens.result.0 q)
    (c.full-ones.ensures q) (c.full-ones-2.ensures q) (c.full-twos.ensures q) (c.half-fours.ensures q) (c.half-eights.ensures q) (c.half-sixteens.ensures q)
