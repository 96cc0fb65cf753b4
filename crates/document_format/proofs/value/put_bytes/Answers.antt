use Rattle.std.proofs.Common.{sym, subst}
use Rattle.base_devices.specs.Pending.{outlet, Went}
use Rattle.base_devices.proofs.Outlets.{went-then}
use Rattle.filter_text.specs.ValueText.{escape}
use Rattle.document_format.proofs.value.put_bytes.Goals as goal
use Rattle.base.proofs.Lists.{flat_map-take-next}

pub loop-b-preserved : goal.loop-b-preserved
loop-b-preserved g c =
    subst (Went (outlet (g.K.Sink.state c.args.sink.now) c.args.out.now)
    (outlet (g.K.Sink.state c.put_escaped.new.sink) c.put_escaped.new.out))
    (sym (flat_map-take-next (escape) c.args.bytes.now c.loop-b.b-index 0 c.loop-b-test.true))
    (went-then _ _ _ _ _ c.loop-b.invariant c.put_escaped.ensures)
