use Rattle.std.proofs.Common.{◌≡◌, ◌*◌, ◌<◌, ℕ, take}
use Rattle.match_index.specs.Pairs.{tally}
use Rattle.match_cells.specs.Counts.{rows_with}
use Rattle.match_filters.specs.Kinds.{all_uses}
use Rattle.match_filters.specs.Rows.{AreLong, is_met}
use Rattle.match_filters.proofs.count.gather.Given as goal

abbrev pub invariant-loop-name : goal.invariant-loop-name
invariant-loop-name l = record {
  long : AreLong l.span l.rows;
  counts : (k : ℕ) → k < 64 * l.span → rows_with l.rows k ≡ tally (λ a. is_met a (all_uses l.index) k) (take l.name-index l.name-items);
}
