use Rattle.std.proofs.Common.{◌≡◌, ℕ, ◌<◌, [], length, get_or}
use Rattle.base_tree.proofs.tables.blank.Given as goal

abbrev pub invariant-loop : goal.invariant-loop
invariant-loop l = record {
  rows : length l.rows.items ≡ l.counter;
  places : (x : ℕ) → x < l.counter → length (get_or l.rows.items x []) ≡ l.len;
}
