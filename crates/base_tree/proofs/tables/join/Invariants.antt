use Rattle.std.proofs.Common.{◌≡◌, ℕ, ◌<◌, ◌≤◌, [], length, get_or}
use Rattle.base_tree.specs.Growing.{hop_after}
use Rattle.base_tree.proofs.tables.join.Given as goal

abbrev pub invariant-loop-x : goal.invariant-loop-x
invariant-loop-x l = record {
  len : length l.rows ≡ length l.initial.rows;
  places : (x : ℕ) → x < l.x → length (get_or l.rows x []) ≡ length (get_or l.initial.rows x []);
  entries : (x y : ℕ) → x < l.x → y < length (get_or l.initial.rows x []) → get_or (get_or l.rows x []) y 0 ≡ hop_after l.labels (get_or l.initial.rows x []) x l.a l.b y;
  left : (x : ℕ) → l.x ≤ x → get_or l.rows x [] ≡ get_or l.initial.rows x [];
}
