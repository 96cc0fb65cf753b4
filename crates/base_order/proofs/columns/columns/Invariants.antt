use Rattle.std.proofs.Common.{◌≡◌}
use Rattle.base_order.specs.Columns.{column_rows}
use Rattle.base_order.proofs.columns.columns.Given as goal

abbrev pub invariant-loop-bit : goal.invariant-loop-bit
invariant-loop-bit l = l.columns.items ≡ column_rows l.signs l.bit
