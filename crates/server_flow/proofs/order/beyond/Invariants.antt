use Rattle.std.proofs.Common.{◌≡◌, ◌-◌, ◌<◌}
use Rattle.std.specs.List.{range_with_len}
use Rattle.base.specs.Numbers.{sum_over, count}
use Rattle.base_tree.specs.Hops.{side}
use Rattle.base_tree.specs.Tree.{hop_of}
use Rattle.server_flow.proofs.order.beyond.Given as goal

abbrev pub invariant-loop-x : goal.invariant-loop-x
invariant-loop-x l = record {
  sum : l.size ≡ sum_over (λ x. count (side (hop_of l.tree) l.at l.of x)) (range_with_len 1 (l.x - 1));
  few : l.size < l.x;
}
