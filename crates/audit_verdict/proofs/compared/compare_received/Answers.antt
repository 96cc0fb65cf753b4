use Rattle.std.proofs.Common.{◌++◌, ◌∙◌, take, ap, subst}
use Rattle.std.specs.List.{flat_map}
use Rattle.net_inbox.specs.Inbox.{at_numbers}
use Rattle.net_inbox.proofs.InOrder.{texts-next}
use Rattle.output_report.specs.Deliveries.{delivery_line}
use Rattle.audit_verdict.specs.Comparing.{GoesOn}
use Rattle.audit_verdict.proofs.Pieces.{goes_then}
use Rattle.audit_verdict.proofs.compared.compare_received.Goals as goal

pub loop-number-preserved : goal.loop-number-preserved
loop-number-preserved c =
    let line = delivery_line c.args.clients.now in
    let all = c.args.received.deliveries.now in
    let numbers = c.args.received.numbers.now in
    let before = flat_map line (take c.loop-number.number-index (at_numbers all numbers)) in
    subst (GoesOn c.args.text.now c.compare_delivery.new.text)
    (ap (λ z. before ++ line z) c.at.ensures ∙ texts-next line all numbers c.loop-number.number-index c.loop-number-test.true)
    (goes_then c.args.text.now c.loop-number.text c.compare_delivery.new.text before (line c.at.result) c.loop-number.invariant c.in_ok-compare_delivery.ensures)
