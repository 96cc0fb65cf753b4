use Rattle.std.proofs.Common.{ℕ, List, get_or, subst}
use Rattle.std.proofs.lemmas.List.{take_all}
use Rattle.base_tree.specs.Labels.{IsPartition}
use Rattle.base_tree.specs.Tree.{entry}
use Rattle.base_tree.proofs.Forest.{Hopped}
use Rattle.base_tree.proofs.Hopping.{hops-more, hops-whole, table-after, parts-differ}
use Rattle.base_tree.proofs.Steps.{one-more}
use Rattle.base_tree.proofs.tables.add_edges.Goals as goal

pub loop-edge-preserved : goal.loop-edge-preserved
loop-edge-preserved c =
    let edges : List (ℕ × ℕ) = c.args.edges.now in
    let i : ℕ = c.loop-edge.edge-index in
    let a : ℕ = (get_or c.args.edges.now c.loop-edge.edge-index (0, 0)).0 in
    let b : ℕ = (get_or c.args.edges.now c.loop-edge.edge-index (0, 0)).1 in
    record {
      table = table-after c.args.n c.loop-edge.labels c.loop-edge.rows c.join.new.rows (get_or c.args.edges.now c.loop-edge.edge-index (0, 0)).0 (get_or c.args.edges.now c.loop-edge.edge-index (0, 0)).1 c.loop-edge.invariant.table c.join.ensures;
      parts = one-more c.args.n c.args.edges.now c.loop-edge.edge-index c.loop-edge.labels c.relabel.new.labels c.requires.few.1 c.requires.within c.loop-edge-test.true c.loop-edge.invariant.parts (parts-differ c.args.n c.args.edges.now c.loop-edge.edge-index c.loop-edge.labels c.requires.tree c.requires.within c.loop-edge-test.true c.loop-edge.invariant.parts) c.relabel.ensures;
      hops = hops-more c.args.n c.args.edges.now c.loop-edge.edge-index c.loop-edge.labels c.relabel.new.labels c.loop-edge.rows c.join.new.rows c.requires.few.1 c.requires.tree c.requires.within c.loop-edge-test.true c.loop-edge.invariant.parts c.relabel.ensures c.loop-edge.invariant.table c.join.ensures c.loop-edge.invariant.hops;
    }

pub returns-clause-hops : goal.returns-clause-hops
returns-clause-hops c =
    let whole = take_all c.loop-edge.edge-index c.args.edges.now c.loop-edge-test.false in
    hops-whole c.args.n c.args.edges.now c.loop-edge.labels c.loop-edge.rows c.requires.tree c.requires.few
    (subst (λ es. IsPartition c.args.n es c.loop-edge.labels) whole c.loop-edge.invariant.parts)
    (subst (λ es. Hopped c.args.n es (λ x. get_or c.loop-edge.labels x 0) (entry c.loop-edge.rows)) whole c.loop-edge.invariant.hops)
