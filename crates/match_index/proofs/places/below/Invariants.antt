use Rattle.std.proofs.Common.{◌≡◌, ◌<◌, ◌≤◌, ◌+◌, ℕ, length, get_or, true, false}
use Rattle.std.specs.Ordering.{is_lt}
use Rattle.match_index.proofs.places.below.Given as goal

abbrev pub invariant-loop-left : goal.invariant-loop-left
invariant-loop-left g l = record {
  some : 1 ≤ l.left;
  within : l.low + l.left ≤ length l.keys;
  before : (d : _) (k : ℕ) → k < l.low → is_lt (g.K.LineKey.order (get_or l.keys k d) (g.Q.Sought.meant l.key)) ≡ true;
  behind : (d : _) (k : ℕ) → l.low + l.left ≤ k → k < length l.keys → is_lt (g.K.LineKey.order (get_or l.keys k d) (g.Q.Sought.meant l.key)) ≡ false;
}

abbrev pub decreases-loop-left : goal.decreases-loop-left
decreases-loop-left g l = l.left
