use Rattle.std.proofs.Common.{◌∙◌}
use Rattle.base_order.specs.Order.{covered_row}
use Rattle.base_order.proofs.Rows.{rows-more}
use Rattle.base_order.proofs.build.covered_rows.Goals as goal

pub loop-i-preserved : goal.loop-i-preserved
loop-i-preserved g c = record {
  rows = c.in_ok-push.ensures.items ∙ rows-more (covered_row g.T.Cover.covering c.args.items.now) c.loop-i.i c.loop-i.rows.items c.in_ok-covered_row.field-0 c.loop-i.invariant.rows c.in_ok-covered_row.ensures;
  width = c.find_candidates.ensures.width;
}
