use Rattle.std.proofs.Common.{◌≡◌, ℕ, length, []}
use Rattle.output_flood.specs.Rows.{rows_at}
use Rattle.output_flood.proofs.rows.no_rows.Given as goal

abbrev pub invariant-loop-count : goal.invariant-loop-count
invariant-loop-count l = record {
  count : length l.all.items ≡ l.count-index;
  none : (i : ℕ) → rows_at l.all.items i ≡ [];
}
