use Rattle.std.proofs.Common.{◌≡◌, length, slice_get}
use Rattle.base_bits.specs.Words.{passing}
use Rattle.net_tables.specs.Related.{overlaps_in}
use Rattle.net_tables.proofs.related.overlap_row.Given as goal

abbrev pub invariant-loop-i : goal.invariant-loop-i
invariant-loop-i l = record {
  width : l.row.width ≡ length l.filters;
  members : l.row.members ≡ passing (λ i. overlaps_in (slice_get l.filters i) l.advert) l.i;
}
