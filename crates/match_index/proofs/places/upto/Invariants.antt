use Rattle.std.proofs.Common.{◌≡◌, ◌<◌, ◌≤◌, ◌-◌, ℕ, length, get_or, true, false}
use Rattle.std.specs.Ordering.{is_gt}
use Rattle.match_index.proofs.places.upto.Given as goal

abbrev pub invariant-loop-low : goal.invariant-loop-low
invariant-loop-low g l = record {
  ordered : l.low ≤ l.high;
  within : l.high ≤ length l.keys;
  known : l.first ≤ l.low;
  before : (d : _) (k : ℕ) → k < l.low → is_gt (g.K.LineKey.order (get_or l.keys k d) (g.Q.Sought.meant l.key)) ≡ false;
  behind : (d : _) (k : ℕ) → l.high ≤ k → k < length l.keys → is_gt (g.K.LineKey.order (get_or l.keys k d) (g.Q.Sought.meant l.key)) ≡ true;
}

abbrev pub decreases-loop-low : goal.decreases-loop-low
decreases-loop-low g l = l.high - l.low
