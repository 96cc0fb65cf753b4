use Rattle.std.proofs.Common.{map, sym, ap, ◌∙◌}
use Rattle.output_report.specs.Deliveries.{ordered}
use Rattle.output_report.proofs.SortedTexts.{as_they_are}
use Rattle.output_report.proofs.ordering.ordered.Goals as goal

pub returns-else-sorted : goal.returns-else-sorted
returns-else-sorted c = sym (ap (λ s. map (ordered s) c.args.received.items) c.if-sorted.false ∙ as_they_are c.args.received.items)
