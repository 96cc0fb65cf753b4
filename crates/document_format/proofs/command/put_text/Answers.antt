use Rattle.std.proofs.Common.{sym, subst}
use Rattle.base_devices.specs.Pending.{outlet, Went}
use Rattle.base_devices.proofs.Outlets.{went-then}
use Rattle.document_format.specs.CommandText.{command_text}
use Rattle.filter_text.specs.NoticeText.{notice_text}
use Rattle.document_format.proofs.command.put_text.Goals as goal

pub returns-in-Subscribe : goal.returns-in-Subscribe
unfolding command_text
returns-in-Subscribe g c =
    let new = outlet (g.K.Sink.state c.put_control.new.sink) c.put_control.new.out in
    subst (λ x. Went (outlet (g.K.Sink.state c.args.sink.now) c.args.out.now) new (command_text x)) (sym c.in-Subscribe.is)
    (rw c.constraints.ensures.same at c.put_control.ensures)

pub returns-in-Unsubscribe : goal.returns-in-Unsubscribe
unfolding command_text
returns-in-Unsubscribe g c =
    let new = outlet (g.K.Sink.state c.put_control-in-Unsubscribe.new.sink) c.put_control-in-Unsubscribe.new.out in
    subst (λ x. Went (outlet (g.K.Sink.state c.args.sink.now) c.args.out.now) new (command_text x)) (sym c.in-Unsubscribe.is)
    (rw c.constraints-in-Unsubscribe.ensures.same at c.put_control-in-Unsubscribe.ensures)

pub returns-in-Advertise : goal.returns-in-Advertise
unfolding command_text
returns-in-Advertise g c =
    let new = outlet (g.K.Sink.state c.put_control-in-Advertise.new.sink) c.put_control-in-Advertise.new.out in
    subst (λ x. Went (outlet (g.K.Sink.state c.args.sink.now) c.args.out.now) new (command_text x)) (sym c.in-Advertise.is)
    (rw c.constraints-in-Advertise.ensures.same at c.put_control-in-Advertise.ensures)

pub returns-in-Unadvertise : goal.returns-in-Unadvertise
unfolding command_text
returns-in-Unadvertise g c =
    let new = outlet (g.K.Sink.state c.put_control-in-Unadvertise.new.sink) c.put_control-in-Unadvertise.new.out in
    subst (λ x. Went (outlet (g.K.Sink.state c.args.sink.now) c.args.out.now) new (command_text x)) (sym c.in-Unadvertise.is)
    (rw c.constraints-in-Unadvertise.ensures.same at c.put_control-in-Unadvertise.ensures)

pub returns-in-Publish : goal.returns-in-Publish
unfolding command_text notice_text
returns-in-Publish g c =
    let new = outlet (g.K.Sink.state c.put_parts.new.sink) c.put_parts.new.out in
    subst (λ x. Went (outlet (g.K.Sink.state c.args.sink.now) c.args.out.now) new (command_text x)) (sym c.in-Publish.is)
    (went-then _ _ _ _ _ c.put.ensures (rw c.attributes.ensures.same at c.put_parts.ensures))
