use Rattle.std.proofs.Common.{false, sym, ap, ◌∙◌}
use Rattle.output_report.specs.Deliveries.{delivery_sections}
use Rattle.output_report.proofs.SortedTexts.{sections_ordered}
use Rattle.program_sequential.proofs.given.Given.make.Goals as goal

pub returns : goal.returns
returns c =
    let clients = c.args.net.clients in
    ap (λ l. delivery_sections clients false clients c.args.refused.items l) c.in_ok-received.ensures
    ∙ sym (sections_ordered clients c.args.sorted clients c.args.refused.items c.args.received.items)
