use Rattle.std.proofs.Common.{◌≡◌, take}
use Rattle.std.specs.List.{flat_map}
use Rattle.base_devices.specs.Pending.{outlet, Went}
use Rattle.net_inbox.specs.Inbox.{in_order}
use Rattle.output_patterns.specs.Scan.{all_occurrences}
use Rattle.output_patterns.specs.Published.{notices_of}
use Rattle.output_patterns.specs.Found.{found_line}
use Rattle.output_patterns.proofs.writing.put_occurrences.Given as goal

-- what occurs in the deliveries so far went
abbrev pub invariant-loop-number : goal.invariant-loop-number
invariant-loop-number g l =
    (l.detector.steps ≡ l.initial.detector.steps)
    × (l.detector.fed ≡ notices_of l.notices (take l.number-index (in_order l.heard.received)))
    × Went (outlet (g.K.Sink.state l.initial.sink) l.initial.out)
    (outlet (g.K.Sink.state l.sink) l.out)
    (flat_map (found_line l.heard.names.now (in_order l.heard.received)) (all_occurrences l.initial.detector.steps (notices_of l.notices (take l.number-index (in_order l.heard.received)))))
