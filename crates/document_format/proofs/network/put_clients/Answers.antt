use Rattle.std.proofs.Common.{sym, subst, ◌∙◌}
use Rattle.base_devices.specs.Pending.{outlet, Went}
use Rattle.base_devices.proofs.Outlets.{went-then}
use Rattle.document_format.specs.DocumentText.{ended, client_line}
use Rattle.document_format.proofs.network.put_clients.Goals as goal
use Rattle.base.proofs.Lists.{flat_map-take-next}

pub loop-client-preserved : goal.loop-client-preserved
loop-client-preserved g c =
    let old = outlet (g.K.Sink.state c.loop-client.sink) c.loop-client.out in
    let new = outlet (g.K.Sink.state c.put_named.new.sink) c.put_named.new.out in
    subst (Went (outlet (g.K.Sink.state c.args.sink.now) c.args.out.now) new)
    (sym (flat_map-take-next (λ client. ended (client_line client)) c.args.clients.now c.loop-client.client-index c.client-item.result c.loop-client-test.true))
    (went-then _ _ _ _ _ c.loop-client.invariant (subst (λ z. Went old new (ended (client_line z))) (c.client.view_is ∙ c.client-item.is) (rw c.bytes.ensures.bytes at c.put_named.ensures)))
