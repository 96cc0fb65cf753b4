use Rattle.std.proofs.Common.{◌≡◌, ◌-◌, ℕ, List, ◌++◌}
use Rattle.std.specs.List.{flat_map}
use Rattle.base_devices.specs.Pending.{outlet, Went}
use Rattle.document_format.specs.DocumentText.{barrier_lines, ended}
use Rattle.document_format.proofs.script.put_barriers.Given as goal

-- what went, and then the lines that are left
abbrev pub invariant-loop : goal.invariant-loop
invariant-loop g l = (done : List ℕ)
    × Went (outlet (g.K.Sink.state l.initial.sink) l.initial.out) (outlet (g.K.Sink.state l.sink) l.out) done
    × (done ++ flat_map ended (barrier_lines (l.count - l.counter)) ≡ flat_map ended (barrier_lines l.count))
