use Rattle.std.proofs.Common.{◌≡◌, ℕ, List, ◌++◌, drop}
use Rattle.std.specs.List.{flat_map}
use Rattle.base_devices.specs.Pending.{outlet, Went}
use Rattle.document_format.specs.DocumentText.{ended, step_lines}
use Rattle.document_format.proofs.script.put_steps.Given as goal

-- what went, and then the commands and barriers that are left
abbrev pub invariant-loop-at : goal.invariant-loop-at
invariant-loop-at g l = (done : List ℕ)
    × Went (outlet (g.K.Sink.state l.initial.sink) l.initial.out) (outlet (g.K.Sink.state l.sink) l.out) done
    × (done ++ flat_map ended (step_lines l.phase (drop l.at-index l.script) l.barriers) ≡ flat_map ended (step_lines 0 l.script l.barriers))
