use Rattle.std.proofs.Common.{subst}
use Rattle.base_devices.specs.Pending.{outlet, Went}
use Rattle.base_devices.proofs.Outlets.{went-then}
use Rattle.document_format.proofs.Chain.{schedule_text}
use Rattle.document_format.proofs.document.put_schedule.Goals as goal

pub returns : goal.returns
returns g c =
    let new = outlet (g.K.Sink.state c.put_turns.new.sink) c.put_turns.new.out in
    subst (Went (outlet (g.K.Sink.state c.args.sink.now) c.args.out.now) new)
    (schedule_text c.args.clients.now c.args.schedule.now c.is_empty.result c.if-is_empty.false c.is_empty.ensures)
    (went-then _ _ _ _ _ c.put.ensures c.put_turns.ensures)
