use Rattle.std.proofs.Common.{◌≡◌, ◌+◌, ◌<◌, false, [], ◌++◌, drop, get_or, length, refl, sym, ap, ◌∙◌, append_assoc}
use Rattle.base_devices.proofs.Outlets.{went-then, went-nothing}
use Rattle.output_report.specs.Deliveries.{delivery_section, delivery_sections}
use Rattle.output_report.proofs.Sections.{sections-next}
use Rattle.output_report.proofs.writing.put_deliveries.Goals as goal

pub loop-i-init : goal.loop-i-init
loop-i-init g c = ([], went-nothing _, refl)

pub loop-i-preserved : goal.loop-i-preserved
loop-i-preserved g c =
    let (done, went, rest) = c.loop-i.invariant in
    let i = c.loop-i.i in
    let clients = c.args.net.now.clients in
    let shown : c.deref-client-items.result.now ≡ clients = c.deref-client-items.ensures.value ∙ ap (λ n. n.clients) c.net.view_is in
    let also : c.deref.result.now ≡ clients = c.deref.ensures.value ∙ ap (λ n. n.clients) c.net.view_is in
    let item = c.client-item.is ∙ ap (λ z. get_or z i c.client-item.result) shown in
    let within : i < length clients = rw shown at c.loop-i-test.true in
    let section = rw (also, c.as_slice.ensures, c.received.ensures) at c.put_section.ensures in
    let text = delivery_section clients false c.client-item.result c.index-refused-i.result c.index-received-i.result in
    let next = sections-next clients false clients c.args.refused.now c.args.received.now i c.client-item.result c.index-refused-i.result c.index-received-i.result
    within c.requires.refused c.requires.received item c.index-refused-i.is c.index-received-i.is in (
      done ++ text,
      went-then _ _ _ done text went section,
      append_assoc done text (delivery_sections clients false (drop (i + 1) clients) (drop (i + 1) c.args.refused.now) (drop (i + 1) c.args.received.now))
          ∙ ap (λ l. done ++ l) (sym next) ∙ rest,
    )
