use Rattle.std.proofs.Common.{◌≡◌, ◌-◌, ◌≤◌, length}
use Rattle.filter_types.specs.Cover.{filter_covers}
use Rattle.base_order.specs.Order.{covers_at}
use Rattle.output_flood.proofs.Showing.{left_below}
use Rattle.output_flood.proofs.filters.withdraw.Given as goal

abbrev pub invariant-loop-k : goal.invariant-loop-k
invariant-loop-k l = record {
  within : l.at ≤ length l.filters;
  width : l.row.width ≡ length l.filters;
  members : l.row.members ≡ left_below (covers_at filter_covers l.filters l.by) l.at l.initial.row.members;
}

abbrev pub decreases-loop-k : goal.decreases-loop-k
decreases-loop-k l = length l.filters - l.at
