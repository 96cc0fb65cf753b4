use Rattle.std.proofs.Common.{◌≡◌, ◌<◌, ◌≤◌, ◌-◌, ℕ, length, get_or, false}
use Rattle.std.specs.Ordering.{is_lt, is_gt}
use Rattle.match_index.proofs.places.rank.Given as goal

abbrev pub invariant-loop-low : goal.invariant-loop-low
invariant-loop-low g l = record {
  ordered : l.low ≤ l.high;
  within : l.high ≤ length l.keys;
  before : (d : _) (k : ℕ) → k < l.low → is_gt (g.K.LineKey.order (get_or l.keys k d) (g.Q.Sought.meant l.key)) ≡ false;
  behind : (d : _) (k : ℕ) → l.high ≤ k → k < length l.keys → is_lt (g.K.LineKey.order (get_or l.keys k d) (g.Q.Sought.meant l.key)) ≡ false;
}

abbrev pub decreases-loop-low : goal.decreases-loop-low
decreases-loop-low g l = l.high - l.low
