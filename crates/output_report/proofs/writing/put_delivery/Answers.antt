use Rattle.std.proofs.Common.{◌≡◌, ◌∙◌, List, ap, subst, refl}
use Rattle.base_devices.specs.Pending.{outlet, Went}
use Rattle.filter_text.specs.Deliveries.{Delivery}
use Rattle.net_inbox.specs.Inbox.{delivery_at, named_line}
use Rattle.net_model.specs.Nets.{client_name}
use Rattle.net_model.specs.Parts.{ClientParts}
use Rattle.output_report.specs.Deliveries.{delivery_line}
use Rattle.output_report.specs.Lines.{publication_line}
use Rattle.output_report.proofs.writing.put_delivery.Goals as goal

-- the line of a delivery has the name of its publisher
line-named : (clients : List ClientParts) (d : Delivery) → named_line (client_name clients d.id.publisher) d ≡ delivery_line clients d
unfolding named_line delivery_line publication_line
line-named clients d = refl

pub returns-in-Some : goal.returns-in-Some
returns-in-Some g c =
    let d = delivery_at c.args.deliveries.now c.args.number in
    let publisher = λ (z : Delivery). client_name c.args.clients.now z.id.publisher in
    let name = c.client_name-name.ensures ∙ (ap publisher c.delivery.view_is ∙ ap publisher c.at-delivery.ensures) in
    let same = c.in-Some.ensures ∙ (ap (λ z. named_line z d) name ∙ line-named c.args.clients.now d) in
    subst (Went (outlet (g.K.Sink.state c.args.sink.now) c.args.out.now) (outlet (g.K.Sink.state c.put.new.sink) c.put.new.self)) same c.put.ensures
