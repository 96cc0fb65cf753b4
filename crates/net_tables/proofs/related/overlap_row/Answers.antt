use Rattle.std.proofs.Common.{slice_get, sym, ap, ◌∙◌}
use Rattle.base_bits.proofs.Passing.{passing-step}
use Rattle.net_tables.specs.Related.{overlaps_in}
use Rattle.net_tables.proofs.related.overlap_row.Goals as goal

pub loop-i-preserved : goal.loop-i-preserved
loop-i-preserved c =
    let filters = c.args.filters.now in
    let i = c.loop-i.i in
    record {
      width = c.put_if.ensures.width ∙ c.loop-i.invariant.width;
      members = c.put_if.ensures.members ∙ passing-step (λ k. overlaps_in (slice_get filters k) c.args.advert.now) i c.is_met-holds.result c.loop-i.row.members c.loop-i.invariant.members
          (c.is_met-holds.ensures ∙ sym (ap (λ o. overlaps_in o c.args.advert.now) c.at-sub.ensures));
    }
