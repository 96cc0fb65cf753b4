use Rattle.std.proofs.Common.{◌≡◌, ℕ, ◌<◌, ◌≤◌, [], length, filter, get_or}
use Rattle.base_tree.specs.Graph.{servers_to}
use Rattle.base_tree.specs.Hops.{side}
use Rattle.base_tree.specs.Tree.{entry}
use Rattle.base_tree.proofs.tables.neighbour_rows.Given as goal

abbrev pub invariant-loop-a : goal.invariant-loop-a
invariant-loop-a l = record {
  rows : length l.rows.items ≡ l.a;
  none : get_or l.rows.items 0 [] ≡ [];
  some : (x : ℕ) → 1 ≤ x → x < l.a → get_or l.rows.items x [] ≡ filter (λ b. side (entry l.hops) x b b) (servers_to l.fn.n);
}
