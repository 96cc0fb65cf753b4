use Rattle.std.proofs.Common.{arith}
use Rattle.test_values.proofs.pooled.share.Goals as goal

pub share-requires : goal.share-requires
share-requires g c = let there = c.in-Some.ensures.some in (_, there.1, omega (arith, c.holders.ensures _ there.1, c.if-holders-lt1000.true))
