use Rattle.std.proofs.Common.{sym, subst}
use Rattle.base_devices.specs.Pending.{outlet, Went}
use Rattle.base_devices.proofs.Outlets.{went-then}
use Rattle.output_traffic.specs.Text.{link_printed}
use Rattle.output_traffic.specs.Printed.{loads_by}
use Rattle.output_traffic.proofs.directions.put_links.Goals as goal
use Rattle.base.proofs.Lists.{flat_map-take-next}

pub loop-link-preserved : goal.loop-link-preserved
loop-link-preserved g c =
    let line = link_printed c.args.graph (loads_by c.args.loads.now) in
    subst (Went (outlet (g.K.Sink.state c.args.sink.now) c.args.out.now)
    (outlet (g.K.Sink.state c.put_link.new.sink) c.put_link.new.out))
    (sym (flat_map-take-next line c.args.links.now c.loop-link.link-index (0, 0) c.loop-link-test.true))
    (went-then _ _ _ _ _ c.loop-link.invariant c.put_link.ensures)
