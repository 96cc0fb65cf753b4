use Rattle.std.proofs.Common.{take}
use Rattle.std.specs.List.{flat_map}
use Rattle.base_devices.specs.Pending.{outlet, Went}
use Rattle.net_inbox.specs.Inbox.{at_numbers}
use Rattle.output_report.specs.Deliveries.{delivery_line}
use Rattle.output_report.proofs.writing.put_received.Given as goal

-- the lines so far went
abbrev pub invariant-loop-number : goal.invariant-loop-number
invariant-loop-number g l = Went (outlet (g.K.Sink.state l.initial.sink) l.initial.out)
    (outlet (g.K.Sink.state l.sink) l.out) (flat_map (delivery_line l.clients) (take l.number-index (at_numbers l.received.deliveries.now l.received.numbers.now)))
