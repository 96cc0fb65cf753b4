use Rattle.std.proofs.Common.{◌≡◌, ◌%◌, ℕ, length, take}
use Rattle.match_cells.specs.Counts.{goal_at}
use Rattle.match_filters.specs.Hits.{hits_of}
use Rattle.match_filters.proofs.count.count_all.Given as goal

abbrev pub invariant-loop-id : goal.invariant-loop-id
invariant-loop-id l = record {
  length : length l.counts ≡ length l.fn.counts;
  counts : (k : ℕ) → goal_at l.counts k ≡ hits_of k (take l.id-index l.found) % 32;
}
