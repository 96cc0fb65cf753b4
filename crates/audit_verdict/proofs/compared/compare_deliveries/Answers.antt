use Rattle.std.proofs.Common.{◌≡◌, ◌+◌, ◌<◌, false, List, ℕ, [], ◌++◌, drop, get_or, length, refl, sym, ap, ◌∙◌, append_assoc, arith}
use Rattle.std.proofs.lemmas.List.FromFn.{get_or-map-range_with_len, length-map-range_with_len}
use Rattle.filter_text.specs.Deliveries.{Delivery}
use Rattle.net_model.specs.Nets.{of_clients}
use Rattle.sequential_network.specs.Ruling.{refused_by}
use Rattle.net_inbox.specs.Inbox.{in_order}
use Rattle.output_report.specs.Deliveries.{delivery_section, delivery_sections}
use Rattle.output_report.proofs.Sections.{sections-next}
use Rattle.audit_verdict.proofs.Pieces.{goes_nowhere, goes_then}
use Rattle.audit_verdict.proofs.compared.compare_deliveries.Goals as goal

pub loop-i-init : goal.loop-i-init
loop-i-init g c = ([], goes_nowhere c.args.text.now, refl)

pub loop-i-preserved : goal.loop-i-preserved
loop-i-preserved g c =
    let (done, went, rest) = c.loop-i.invariant in
    let i = c.loop-i.i in
    let net = c.args.net.now in
    let clients = net.clients in
    let journal = c.args.network.now.journal in
    let refused : List (List ℕ) = of_clients net (refused_by g.P.Ruled.ruling net journal) in
    let received : List (List Delivery) = of_clients net (g.P.Ruled.ruling.received_by net journal) in
    let shown : c.deref-client-items.result.now ≡ clients = c.deref-client-items.ensures.value ∙ ap (λ n. n.clients) c.net.view_is in
    let also : c.deref.result.now ≡ clients = c.deref.ensures.value ∙ ap (λ n. n.clients) c.net.view_is in
    let item = c.client-item.is ∙ ap (λ z. get_or z i c.client-item.result) shown in
    let within : i < length clients = rw shown at c.loop-i-test.true in
    let r-is : c.refused.result.now ≡ get_or refused i c.refused.result.now = c.refused.ensures ∙ (ap (λ z. refused_by g.P.Ruled.ruling z journal (i + 1)) c.requires.same
    ∙ sym (get_or-map-range_with_len (refused_by g.P.Ruled.ruling net journal) 1 (length clients) i (i + 1) c.refused.result.now within (omega arith))) in
    let d-is : (in_order c.received.result) ≡ get_or received i (in_order c.received.result) = c.received.ensures ∙ (ap (λ z. g.P.Ruled.ruling.received_by z journal (i + 1)) c.requires.same
    ∙ sym (get_or-map-range_with_len (g.P.Ruled.ruling.received_by net journal) 1 (length clients) i (i + 1) (in_order c.received.result) within (omega arith))) in
    let section = rw also at c.in_ok-compare_section.ensures in
    let text = delivery_section clients false c.client-item.result c.refused.result.now (in_order c.received.result) in
    let next = sections-next clients false clients refused received i c.client-item.result c.refused.result.now (in_order c.received.result)
    within (length-map-range_with_len (refused_by g.P.Ruled.ruling net journal) 1 (length clients)) (length-map-range_with_len (g.P.Ruled.ruling.received_by net journal) 1 (length clients)) item r-is d-is in (
      done ++ text,
      goes_then c.args.text.now c.loop-i.text c.compare_section.new.text done text went section,
      append_assoc done text (delivery_sections clients false (drop (i + 1) clients) (drop (i + 1) refused) (drop (i + 1) received))
          ∙ ap (λ l. done ++ l) (sym next) ∙ rest,
    )
