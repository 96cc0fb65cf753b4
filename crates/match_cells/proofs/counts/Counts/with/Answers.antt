use Rattle.std.proofs.lemmas.Nat.Bits.{bit_at-lt}
use Rattle.match_cells.specs.Counts.{count_at}
use Rattle.match_cells.proofs.Adding.{one-more}
use Rattle.match_cells.proofs.counts.Counts.with.Goals as goal

pub returns : goal.returns
unfolding count_at
returns c q =
    one-more _ _ _ _ _ _ _ _ _ _ _ _ _ _ _ _
    (bit_at-lt c.args.self.ones q) (bit_at-lt c.args.self.twos q) (bit_at-lt c.args.self.fours q) (bit_at-lt c.args.self.eights q) (bit_at-lt c.args.self.sixteens q)
    (bit_at-lt c.half-ones.result.0 q) (bit_at-lt c.half-twos.result.0 q) (bit_at-lt c.half-fours.result.0 q) (bit_at-lt c.half-eights.result.0 q) (bit_at-lt c.half-sixteens.result.0 q)
    (c.half-ones.ensures q) (c.half-twos.ensures q) (c.half-fours.ensures q) (c.half-eights.ensures q) (c.half-sixteens.ensures q)
