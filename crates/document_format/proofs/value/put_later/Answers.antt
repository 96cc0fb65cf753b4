use Rattle.std.proofs.Common.{sym, subst, ◌++◌}
use Rattle.std.specs.Prelude.{codes}
use Rattle.base_devices.specs.Pending.{outlet, Went}
use Rattle.base_devices.proofs.Outlets.{went-then}
use Rattle.document_format.proofs.value.put_later.Goals as goal
use Rattle.base.proofs.Lists.{flat_map-take-next}

pub loop-part-preserved : goal.loop-part-preserved
loop-part-preserved g c =
    subst (Went (outlet (g.K.Sink.state c.args.sink.now) c.args.out.now)
    (outlet (g.K.Sink.state c.put-in-loop-part.new.sink) c.put-in-loop-part.new.out))
    (sym (flat_map-take-next (λ x. codes "; " ++ g.P.Part.text x) c.args.parts.now c.loop-part.part-index c.part-item.result c.loop-part-test.true))
    (went-then _ _ _ _ _ c.loop-part.invariant (went-then _ _ _ _ _ c.put.ensures (rw c.part-item.is at c.put-in-loop-part.ensures)))
