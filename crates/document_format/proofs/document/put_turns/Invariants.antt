use Rattle.std.proofs.Common.{take}
use Rattle.std.specs.List.{flat_map}
use Rattle.base_devices.specs.Pending.{outlet, Went}
use Rattle.document_format.specs.DocumentText.{ended, turn_line}
use Rattle.document_format.proofs.document.put_turns.Given as goal

-- the pieces so far went
abbrev pub invariant-loop-turn : goal.invariant-loop-turn
invariant-loop-turn g l = Went (outlet (g.K.Sink.state l.initial.sink) l.initial.out)
    (outlet (g.K.Sink.state l.sink) l.out) (flat_map (λ turn. ended (turn_line l.clients turn.1)) (take l.turn-index l.schedule))
