use Rattle.std.proofs.Common.{ℕ, ◌<◌}
use Rattle.base.specs.Sets.{Has}
use Rattle.base_tree.specs.Tree.{links_of}
use Rattle.server_spec.specs.Rows.{IsOrder, size_of}
use Rattle.server_flow.proofs.order.ordered.Given as goal

abbrev pub invariant-loop-many : goal.invariant-loop-many
invariant-loop-many l = record {
  order : IsOrder l.tree l.order.items;
  fewer : (a b : ℕ) → Has b (links_of l.tree a) → size_of l.tree a b < l.many → Has (a, b) l.order.items;
}
