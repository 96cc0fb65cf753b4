use Rattle.std.proofs.Common.{sym, subst}
use Rattle.std.specs.List.{flat_map}
use Rattle.base_devices.specs.Pending.{outlet, Went}
use Rattle.base_devices.proofs.Outlets.{went-then}
use Rattle.document_format.specs.DocumentText.{ended, script_lines}
use Rattle.document_format.proofs.document.put_scripts.Goals as goal
use Rattle.base.proofs.Lists.{flat_map-take-next}

pub loop-client-preserved : goal.loop-client-preserved
loop-client-preserved g c =
    subst (Went (outlet (g.K.Sink.state c.args.sink.now) c.args.out.now)
    (outlet (g.K.Sink.state c.put_script.new.sink) c.put_script.new.out))
    (sym (flat_map-take-next (λ client. flat_map ended (script_lines client)) c.args.clients.now c.loop-client.client-index c.client-item.result c.loop-client-test.true))
    (went-then _ _ _ _ _ c.loop-client.invariant (rw c.client-item.is at c.put_script.ensures))
