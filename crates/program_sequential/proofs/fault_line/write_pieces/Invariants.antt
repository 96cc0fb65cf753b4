use Rattle.std.proofs.Common.{◌≡◌, take}
use Rattle.base_devices.specs.Sinks.{Took}
use Rattle.program_sequential.specs.Pieces.{joined}
use Rattle.program_sequential.proofs.fault_line.write_pieces.Given as goal

-- the pieces so far were taken
abbrev pub invariant-loop-piece : goal.invariant-loop-piece
invariant-loop-piece g l = Took (g.K.Sink.state l.initial.sink) (g.K.Sink.state l.sink) (joined (take l.piece-index l.pieces))
    × ((g.K.Sink.state l.sink).faults ≡ (g.K.Sink.state l.initial.sink).faults)
