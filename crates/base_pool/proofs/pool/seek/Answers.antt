use Rattle.std.proofs.Common.{arith}
use Rattle.std.proofs.lemmas.Grind.{common_steps}
use Rattle.base_pool.proofs.Order.{gap-end, gap-inner}
use Rattle.base_pool.proofs.pool.seek.Goals as goal
use Rattle.base_pool.proofs.pool.seek.Goals.{else-at-sorted-via-then-at-sorted+else-not-before, else-at-sorted-via-else-at-sorted}

pub returns-else-at-sorted-clause-err : goal.returns-else-at-sorted-clause-err
returns-else-at-sorted-clause-err g c = elim c.else-at-sorted.branch [
  | else-at-sorted-via-then-at-sorted+else-not-before w ↦ gap-inner g.T.Cover.covering g.T.Cover.order g.met.T.Cover.laws _ _ c.requires _ _ w.index.result.now c.place-at.ensures.within c.place-at.ensures.below (grind (arith, common_steps)) (grind (arith, common_steps))
  | else-at-sorted-via-else-at-sorted w ↦ gap-end g.T.Cover.covering g.T.Cover.order g.met.T.Cover.laws _ _ c.requires _ _ c.place-at.ensures.within (omega arith) c.place-at.ensures.below
]
