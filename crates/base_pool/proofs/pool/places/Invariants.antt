use Rattle.std.proofs.Common.{◌≡◌, ℕ, ◌<◌, length, get_or}
use Rattle.base_pool.specs.Sorted.{place_of}
use Rattle.base_pool.proofs.pool.places.Given as goal

abbrev pub invariant-loop-number : goal.invariant-loop-number
invariant-loop-number g l =
    record {
      long : (k : ℕ) → k < length l.sorted → place_of l.sorted k < length l.places.items;
      written : (k : ℕ) → k < l.number → get_or l.places.items (place_of l.sorted k) 0 ≡ k;
    }
