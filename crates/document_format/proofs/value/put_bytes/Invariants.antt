use Rattle.std.proofs.Common.{take}
use Rattle.std.specs.List.{flat_map}
use Rattle.base_devices.specs.Pending.{outlet, Went}
use Rattle.filter_text.specs.ValueText.{escape}
use Rattle.document_format.proofs.value.put_bytes.Given as goal

-- the pieces so far went
abbrev pub invariant-loop-b : goal.invariant-loop-b
invariant-loop-b g l = Went (outlet (g.K.Sink.state l.initial.sink) l.initial.out)
    (outlet (g.K.Sink.state l.sink) l.out) (flat_map (escape) (take l.b-index l.bytes))
