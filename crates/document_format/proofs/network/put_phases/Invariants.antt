use Rattle.std.proofs.Common.{take}
use Rattle.std.specs.List.{flat_map}
use Rattle.base_devices.specs.Pending.{outlet, Went}
use Rattle.document_format.specs.DocumentText.{ended, phase_lines}
use Rattle.document_format.proofs.network.put_phases.Given as goal

-- the pieces so far went
abbrev pub invariant-loop-tree : goal.invariant-loop-tree
invariant-loop-tree g l = Went (outlet (g.K.Sink.state l.initial.sink) l.initial.out)
    (outlet (g.K.Sink.state l.sink) l.out) (flat_map (λ tree. flat_map ended (phase_lines tree)) (take l.tree-index l.trees))
