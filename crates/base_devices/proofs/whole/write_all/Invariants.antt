use Rattle.std.proofs.Common.{◌≡◌, ℕ, List, ◌++◌, length}
use Rattle.base_devices.specs.Sinks.{Took}
use Rattle.base_devices.proofs.whole.write_all.Given as goal

-- what is gone from the rest was taken
abbrev pub invariant-loop-rest : goal.invariant-loop-rest
invariant-loop-rest g l = (done : List ℕ) × (l.bytes ≡ done ++ l.rest) × Took (g.K.Sink.state l.initial.sink) (g.K.Sink.state l.sink) done × ((g.K.Sink.state l.initial.sink).faults ≡ (g.K.Sink.state l.sink).faults)

abbrev pub decreases-loop-rest : goal.decreases-loop-rest
decreases-loop-rest g l = length l.rest
