use Rattle.std.proofs.Common.{◌∙◌}
use Rattle.base_order.specs.Columns.{column_row}
use Rattle.base_order.proofs.Rows.{rows-more}
use Rattle.base_order.proofs.columns.columns.Goals as goal

pub loop-bit-preserved : goal.loop-bit-preserved
loop-bit-preserved c =
    c.in_ok-push.ensures.items ∙ rows-more (column_row c.args.signs.now) c.loop-bit.bit c.loop-bit.columns.items c.in_ok-column.field-0 c.loop-bit.invariant c.in_ok-column.ensures
