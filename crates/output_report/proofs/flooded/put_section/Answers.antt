use Rattle.std.proofs.Common.{sym, subst}
use Rattle.std.proofs.lemmas.List.{take_all}
use Rattle.base_devices.specs.Pending.{outlet, Went}
use Rattle.base_devices.proofs.Outlets.{went-then}
use Rattle.output_report.specs.Lines.{client_line}
use Rattle.output_report.specs.Flood.{flood_section, row_line}
use Rattle.output_report.proofs.flooded.put_section.Goals as goal
use Rattle.base.proofs.Lists.{flat_map-take-next}

pub loop-row-preserved : goal.loop-row-preserved
loop-row-preserved g c =
    subst (Went (outlet (g.K.Sink.state c.put_refused.new.sink) c.put_refused.new.out)
    (outlet (g.K.Sink.state c.put_row.new.sink) c.put_row.new.out))
    (sym (flat_map-take-next (row_line c.args.published.clients.now c.args.published.texts.now) c.args.rows.now c.loop-row.row-index _ c.loop-row-test.true))
    (went-then _ _ _ _ _ c.loop-row.invariant c.put_row.ensures)

pub returns : goal.returns
unfolding flood_section
returns g c =
    let old = outlet (g.K.Sink.state c.args.sink.now) c.args.out.now in
    let new = outlet (g.K.Sink.state c.put_client.new.sink) c.put_client.new.out in
    let first : Went old new (client_line c.args.client.now.name) = subst (λ z. Went old new (client_line z.name)) c.client.view_is c.put_client.ensures in
    went-then _ _ _ _ _ (went-then _ _ _ _ _ first c.put_refused.ensures) (rw (take_all _ c.args.rows.now c.loop-row-test.false) at c.loop-row.invariant)
