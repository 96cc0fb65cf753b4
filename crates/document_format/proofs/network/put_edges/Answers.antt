use Rattle.std.proofs.Common.{sym, subst}
use Rattle.base_devices.specs.Pending.{outlet, Went}
use Rattle.base_devices.proofs.Outlets.{went-then}
use Rattle.document_format.specs.Writing.{edge_text}
use Rattle.document_format.proofs.network.put_edges.Goals as goal
use Rattle.base.proofs.Lists.{flat_map-take-next}

pub loop-b-preserved : goal.loop-b-preserved
loop-b-preserved g c =
    subst (Went (outlet (g.K.Sink.state c.args.sink.now) c.args.out.now)
    (outlet (g.K.Sink.state c.put_edge.new.sink) c.put_edge.new.out))
    (sym (flat_map-take-next (edge_text c.args.a) c.args.neighbours.now c.loop-b.b-index 0 c.loop-b-test.true))
    (went-then _ _ _ _ _ c.loop-b.invariant c.put_edge.ensures)
