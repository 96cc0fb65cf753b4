use Rattle.std.proofs.Common.{◌≡◌, ◌≤◌, ◌-◌, length}
use Rattle.base_bits.specs.Words.{passing}
use Rattle.base_order.specs.Order.{covers_at}
use Rattle.base_order.proofs.build.covered_row.Given as goal

abbrev pub invariant-loop-j : goal.invariant-loop-j
invariant-loop-j g l =
    record {
      within : l.at ≤ length l.items;
      width : l.row.width ≡ length l.items;
      members : l.row.members ≡ passing (λ j. covers_at g.T.Cover.covering l.items l.i j) l.at;
    }

abbrev pub decreases-loop-j : goal.decreases-loop-j
decreases-loop-j g l = length l.items - l.at
