use Rattle.std.proofs.Common.{◌≡◌, take, map}
use Rattle.output_report.specs.Deliveries.{by_id}
use Rattle.output_report.proofs.ordering.lists_by_id.Given as goal

abbrev pub invariant-loop-inbox : goal.invariant-loop-inbox
invariant-loop-inbox l = l.lists.items ≡ map by_id (take l.inbox-index l.received)
