use Rattle.std.proofs.Common.{ap, ◌∙◌}
use Rattle.net_tables.specs.Related.{overlap_row}
use Rattle.net_tables.proofs.Kept.{mapped_next}
use Rattle.net_tables.proofs.related.overlap_rows.Goals as goal

pub loop-i-preserved : goal.loop-i-preserved
loop-i-preserved c =
    mapped_next (overlap_row c.args.filters.now) c.args.adverts.now c.loop-i.i c.at-ad.result.now c.in_ok-overlap_row.field-0 c.loop-i.rows.items c.push.new.self.items c.at-ad.ensures
    (c.in_ok-overlap_row.ensures ∙ ap (overlap_row c.args.filters.now) c.ad.view_is) c.loop-i.invariant c.in_ok-push.ensures.items
