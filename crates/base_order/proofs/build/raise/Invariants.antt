use Rattle.std.proofs.Common.{◌-◌, ◌≤◌, length}
use Rattle.base_order.specs.Order.{AreOver}
use Rattle.base_order.proofs.build.raise.Given as goal

abbrev pub invariant-loop-j : goal.invariant-loop-j
invariant-loop-j g l =
    record {
      within : l.at ≤ length l.items;
      over : AreOver g.T.Cover.covering l.items l.i l.at l.above;
    }

abbrev pub decreases-loop-j : goal.decreases-loop-j
decreases-loop-j g l = length l.items - l.at
