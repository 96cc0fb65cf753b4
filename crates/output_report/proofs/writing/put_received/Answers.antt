use Rattle.std.proofs.Common.{subst}
use Rattle.base_devices.specs.Pending.{outlet, Went}
use Rattle.base_devices.proofs.Outlets.{went-then}
use Rattle.net_inbox.proofs.InOrder.{texts-next}
use Rattle.output_report.specs.Deliveries.{delivery_line}
use Rattle.output_report.proofs.writing.put_received.Goals as goal

pub loop-number-preserved : goal.loop-number-preserved
loop-number-preserved g c =
    let line = delivery_line c.args.clients.now in
    let all = c.args.received.deliveries.now in
    let numbers = c.args.received.numbers.now in
    subst (Went (outlet (g.K.Sink.state c.args.sink.now) c.args.out.now)
    (outlet (g.K.Sink.state c.put_delivery.new.sink) c.put_delivery.new.out))
    (texts-next line all numbers c.loop-number.number-index c.loop-number-test.true)
    (went-then _ _ _ _ _ c.loop-number.invariant c.put_delivery.ensures)
