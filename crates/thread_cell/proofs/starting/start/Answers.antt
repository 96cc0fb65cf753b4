use Rattle.std.proofs.Common.{map, ap, subst, ◌∙◌, arith}
use Rattle.std.proofs.lemmas.List.{length-map}
use Rattle.base_tree.specs.Tree.{Topology}
use Rattle.net_model.specs.Parts.{NetParts}
use Rattle.net_model.specs.Nets.{topology_at}
use Rattle.thread_cell.specs.Lanes.{AreLanesOf}
use Rattle.thread_cell.proofs.Filled.{few-rows}
use Rattle.thread_cell.proofs.starting.start.Goals as goal
use Rattle.net_model.proofs.SoundNets.{tree-count}

pub fill-requires-clause-few : goal.fill-requires-clause-few
fill-requires-clause-few g c =
    let n = length-map c.in_ok-rows.rows.items (λ r. r.items) in
    let f = few-rows c.args.tables.now (map (λ r. r.items) c.in_ok-rows.rows.items) c.requires (c.in_ok-rows.ensures.long ∙ ap (λ (t : Topology). t.count) (c.tree.ensures ∙ ap (λ (n : NetParts). topology_at n 0) c.net.ensures) ∙ tree-count c.args.tables.now.trees c.requires.trees 0) in
    omega (arith, n, f)

pub fill-requires-clause-lanes : goal.fill-requires-clause-lanes
fill-requires-clause-lanes g c =
    subst (λ (t : Topology). AreLanesOf t (map (λ r. r.items) c.in_ok-rows.rows.items)) (c.tree.ensures ∙ ap (λ (n : NetParts). topology_at n 0) c.net.ensures) c.in_ok-rows.ensures
