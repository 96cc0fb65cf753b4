use Rattle.std.proofs.Common.{◌≡◌, ◌-◌, ◌≤◌, nat_lt, filter, length}
use Rattle.base_order.specs.Order.{root_numbers}
use Rattle.base_order.proofs.order.Order.roots.Given as goal

abbrev pub invariant-loop-i : goal.invariant-loop-i
invariant-loop-i g l =
    record {
      within : l.at ≤ length l.self;
      width : l.into.width ≡ length l.self;
      members : l.into.members ≡ filter (λ k. nat_lt k l.at) (root_numbers g.T.Cover.covering l.self l.of.members);
    }

abbrev pub decreases-loop-i : goal.decreases-loop-i
decreases-loop-i g l = length l.self - l.at
