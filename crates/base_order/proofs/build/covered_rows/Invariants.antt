use Rattle.std.proofs.Common.{◌≡◌, length}
use Rattle.base_order.specs.Order.{covered_rows}
use Rattle.base_order.proofs.build.covered_rows.Given as goal

abbrev pub invariant-loop-i : goal.invariant-loop-i
invariant-loop-i g l =
    record {
      rows : l.rows.items ≡ covered_rows g.T.Cover.covering l.items l.i;
      width : l.candidates.width ≡ length l.items;
    }
