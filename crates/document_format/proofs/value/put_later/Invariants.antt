use Rattle.std.proofs.Common.{take, ◌++◌}
use Rattle.std.specs.Prelude.{codes}
use Rattle.std.specs.List.{flat_map}
use Rattle.base_devices.specs.Pending.{outlet, Went}
use Rattle.document_format.proofs.value.put_later.Given as goal

-- the pieces so far went
abbrev pub invariant-loop-part : goal.invariant-loop-part
invariant-loop-part g l = Went (outlet (g.K.Sink.state l.initial.sink) l.initial.out)
    (outlet (g.K.Sink.state l.sink) l.out) (flat_map (λ x. codes "; " ++ g.P.Part.text x) (take l.part-index l.parts))
