use Rattle.std.proofs.Common.{subst}
use Rattle.std.specs.List.{flat_map}
use Rattle.base_tree.specs.Tree.{servers_of}
use Rattle.base_devices.specs.Pending.{outlet, Went}
use Rattle.base_devices.proofs.Outlets.{went-then, went-nothing}
use Rattle.document_format.specs.Writing.{server_text}
use Rattle.document_format.proofs.Chain.{first_trees, no_trees}
use Rattle.document_format.proofs.network.put_trees.Goals as goal

pub returns-in-empty : goal.returns-in-empty
returns-in-empty g c =
    let old = outlet (g.K.Sink.state c.args.sink.now) c.args.out.now in
    subst (Went old old) (no_trees c.args.trees.now c.in-empty.len_below) (went-nothing old)

pub returns-in-len1-up : goal.returns-in-len1-up
returns-in-len1-up g c =
    let old = outlet (g.K.Sink.state c.args.sink.now) c.args.out.now in
    let mid = outlet (g.K.Sink.state c.put_tree.new.sink) c.put_tree.new.out in
    let new = outlet (g.K.Sink.state c.put_phases.new.sink) c.put_phases.new.out in
    subst (Went old new) (first_trees c.args.trees.now c.first-item.result c.in-len1-up.len_at_least)
    (went-then _ _ _ _ _ (subst (λ z. Went old mid (flat_map (server_text z.1) (servers_of z.1))) c.first-item.is c.put_tree.ensures) c.put_phases.ensures)
