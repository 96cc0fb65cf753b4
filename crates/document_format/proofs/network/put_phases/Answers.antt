use Rattle.std.proofs.Common.{sym, subst}
use Rattle.std.specs.List.{flat_map}
use Rattle.base_devices.specs.Pending.{outlet, Went}
use Rattle.base_devices.proofs.Outlets.{went-then}
use Rattle.document_format.specs.DocumentText.{ended, phase_lines}
use Rattle.document_format.proofs.network.put_phases.Goals as goal
use Rattle.base.proofs.Lists.{flat_map-take-next}

pub loop-tree-preserved : goal.loop-tree-preserved
loop-tree-preserved g c =
    subst (Went (outlet (g.K.Sink.state c.args.sink.now) c.args.out.now)
    (outlet (g.K.Sink.state c.put_phase.new.sink) c.put_phase.new.out))
    (sym (flat_map-take-next (λ tree. flat_map ended (phase_lines tree)) c.args.trees.now c.loop-tree.tree-index c.tree-item.result c.loop-tree-test.true))
    (went-then _ _ _ _ _ c.loop-tree.invariant (rw c.tree-item.is at c.put_phase.ensures))
