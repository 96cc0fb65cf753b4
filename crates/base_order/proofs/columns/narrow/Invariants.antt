use Rattle.std.proofs.Common.{◌≡◌, ℕ, ◌<◌, length, slice_index}
use Rattle.base.specs.Sets.{Has}
use Rattle.base_order.specs.Columns.{MayCover}
use Rattle.base_order.proofs.columns.narrow.Given as goal

abbrev pub invariant-loop-bit : goal.invariant-loop-bit
invariant-loop-bit l =
    record {
      width : l.row.width ≡ length l.signs;
      kept : (j : ℕ) → Has j l.fn.row.members → j < length l.signs → MayCover l.sign (slice_index l.signs j) → Has j l.row.members;
    }
