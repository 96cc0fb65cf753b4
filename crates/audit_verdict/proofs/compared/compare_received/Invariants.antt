use Rattle.std.proofs.Common.{take}
use Rattle.std.specs.List.{flat_map}
use Rattle.net_inbox.specs.Inbox.{at_numbers}
use Rattle.output_report.specs.Deliveries.{delivery_line}
use Rattle.audit_verdict.specs.Comparing.{GoesOn}
use Rattle.audit_verdict.proofs.compared.compare_received.Given as goal

-- the lines so far were compared
abbrev pub invariant-loop-number : goal.invariant-loop-number
invariant-loop-number l =
    GoesOn l.initial.text l.text (flat_map (delivery_line l.clients) (take l.number-index (at_numbers l.received.deliveries.now l.received.numbers.now)))
