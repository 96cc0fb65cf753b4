use Rattle.std.proofs.Common.{◌≡◌, length, slice_index}
use Rattle.base_bits.specs.Words.{passing}
use Rattle.base_order.specs.Columns.{may_have}
use Rattle.base_order.proofs.columns.column.Given as goal

abbrev pub invariant-loop-j : goal.invariant-loop-j
invariant-loop-j l =
    record {
      width : l.row.width ≡ length l.signs;
      members : l.row.members ≡ passing (λ j. may_have (slice_index l.signs j) l.bit) l.j;
    }
