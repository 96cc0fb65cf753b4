use Rattle.std.proofs.Common.{◌≡◌, ℕ, ◌<◌}
use Rattle.base.specs.Sets.{Has}
use Rattle.base_tree.specs.Tree.{links_of}
use Rattle.server_spec.specs.Rows.{IsOrder, size_of}
use Rattle.server_flow.proofs.order.put_size.Given as goal

abbrev pub invariant-loop-at : goal.invariant-loop-at
invariant-loop-at l = record {
  order : IsOrder l.tree l.order.items;
  fewer : (a b : ℕ) → Has b (links_of l.tree a) → size_of l.tree a b < l.many → Has (a, b) l.order.items;
  all : (a b : ℕ) → a < l.at → Has b (links_of l.tree a) → size_of l.tree a b ≡ l.many → Has (a, b) l.order.items;
}
