use Rattle.std.proofs.Common.{◌<◌, length, get_or, sym, subst, ◌∙◌}
use Rattle.std.proofs.lemmas.Option.{slice_get-get_or}
use Rattle.output_flood.proofs.Gathering.{place_next}
use Rattle.output_flood.proofs.rows.push_row.Goals as goal

pub loop-place-preserved : goal.loop-place-preserved
loop-place-preserved c = record {
  count = c.in_ok-push_at.ensures.count ∙ c.loop-place.invariant.count;
  rows = place_next c.args.places.now c.loop-place.place-index (get_or c.args.places.now c.loop-place.place-index 0) c.args.row c.loop-place.all.items c.push_at.new.all.items
      c.args.all.now.items (length c.args.all.now.items) c.requires (slice_get-get_or c.args.places.now c.loop-place.place-index 0 c.loop-place-test.true)
      (λ i l. c.in_ok-push_at.ensures.rows i (subst (λ z. i < z) (sym c.loop-place.invariant.count) l)) c.loop-place.invariant.rows;
}
