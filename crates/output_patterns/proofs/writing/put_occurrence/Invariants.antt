use Rattle.std.proofs.Common.{take}
use Rattle.std.specs.List.{flat_map}
use Rattle.base_devices.specs.Pending.{outlet, Went}
use Rattle.net_inbox.specs.Inbox.{in_order}
use Rattle.output_patterns.specs.Found.{place_text}
use Rattle.output_patterns.proofs.writing.put_occurrence.Given as goal

-- those so far went
abbrev pub invariant-loop-place : goal.invariant-loop-place
invariant-loop-place g l = Went (outlet (g.K.Sink.state l.initial.sink) l.initial.out)
    (outlet (g.K.Sink.state l.sink) l.out) (flat_map (place_text l.heard.names.now (in_order l.heard.received)) (take l.place-index l.places))
