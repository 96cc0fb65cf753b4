use Rattle.std.proofs.Common.{◌≡◌, ℕ, take}
use Rattle.base.specs.Sets.{Has}
use Rattle.server_spec.specs.Rows.{IsOrder, size_of}
use Rattle.server_flow.proofs.order.put_links.Given as goal

abbrev pub invariant-loop-of : goal.invariant-loop-of
invariant-loop-of l = record {
  order : IsOrder l.tree l.order.items;
  kept : (a b : ℕ) → Has (a, b) l.fn.order.items → Has (a, b) l.order.items;
  all : (b : ℕ) → Has b (take l.of-index l.of-items) → size_of l.tree l.at b ≡ l.many → Has (l.at, b) l.order.items;
}
