use Rattle.base_order.specs.Order.{AreOver}
use Rattle.base_order.proofs.build.above_rows.Given as goal

abbrev pub invariant-loop-i : goal.invariant-loop-i
invariant-loop-i g l = AreOver g.T.Cover.covering l.items l.i 0 l.above.items
