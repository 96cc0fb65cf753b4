use Rattle.std.proofs.Common.{sym, subst}
use Rattle.base_devices.specs.Pending.{outlet, Went}
use Rattle.base_devices.proofs.Outlets.{went-then}
use Rattle.output_report.specs.Lines.{refused_line}
use Rattle.output_report.proofs.writing.put_refused.Goals as goal
use Rattle.base.proofs.Lists.{flat_map-take-next}

pub loop-ordinal-preserved : goal.loop-ordinal-preserved
loop-ordinal-preserved g c =
    subst (Went (outlet (g.K.Sink.state c.args.sink.now) c.args.out.now)
    (outlet (g.K.Sink.state c.put_refusal.new.sink) c.put_refusal.new.out))
    (sym (flat_map-take-next refused_line c.args.ordinals.now c.loop-ordinal.ordinal-index 0 c.loop-ordinal-test.true))
    (went-then _ _ _ _ _ c.loop-ordinal.invariant c.put_refusal.ensures)
