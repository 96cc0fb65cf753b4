use Rattle.std.proofs.Common.{◌≡◌, ◌<◌, ◌++◌, ℕ, length, drop}
use Rattle.output_flood.specs.Tables.{is_found}
use Rattle.output_flood.specs.Rows.{rows_at, once}
use Rattle.output_flood.proofs.rows.push_row.Given as goal

abbrev pub invariant-loop-place : goal.invariant-loop-place
invariant-loop-place l = record {
  count : length l.all.items ≡ length l.initial.all.items;
  rows : (i : ℕ) → i < length l.initial.all.items
      → rows_at l.all.items i ++ once (is_found i (drop l.place-index l.places)) l.row ≡ rows_at l.initial.all.items i ++ once (is_found i l.places) l.row;
}
