use Rattle.std.proofs.Common.{subst}
use Rattle.base_devices.specs.Pending.{outlet, Went}
use Rattle.base_devices.proofs.Outlets.{went-then}
use Rattle.document_format.proofs.Chain.{tree_text}
use Rattle.document_format.proofs.network.put_phase.Goals as goal

pub returns : goal.returns
returns g c =
    let mid = outlet (g.K.Sink.state c.put_numbered.new.sink) c.put_numbered.new.out in
    let new = outlet (g.K.Sink.state c.put_tree.new.sink) c.put_tree.new.out in
    went-then _ _ _ _ _ c.put_numbered.ensures (subst (Went mid new) (tree_text c.args.tree.now) c.put_tree.ensures)
