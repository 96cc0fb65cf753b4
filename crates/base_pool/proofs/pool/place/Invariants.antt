use Rattle.std.proofs.Common.{◌≡◌, ◌<◌, ◌≤◌, ◌-◌, ℕ, length, Some, true, false}
use Rattle.base_pool.specs.Pool.{slot}
use Rattle.base_pool.specs.Sorted.{place_of}
use Rattle.base_pool.proofs.pool.place.Given as goal

abbrev pub invariant-loop-low : goal.invariant-loop-low
invariant-loop-low g l =
    record {
      ordered : l.low ≤ l.high;
      within : l.high ≤ length l.sorted;
      below : (k : ℕ) (x : _) → k < l.low → slot l.slab.slots (place_of l.sorted k) ≡ Some x → g.T.Cover.order x.item l.item ≡ true;
      above : (k : ℕ) (x : _) → l.high ≤ k → k < length l.sorted → slot l.slab.slots (place_of l.sorted k) ≡ Some x → g.T.Cover.order x.item l.item ≡ false;
    }

abbrev pub decreases-loop-low : goal.decreases-loop-low
decreases-loop-low g l = l.high - l.low
