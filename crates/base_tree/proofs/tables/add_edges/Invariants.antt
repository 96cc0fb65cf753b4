use Rattle.std.proofs.Common.{take, get_or}
use Rattle.base_tree.specs.Labels.{IsPartition}
use Rattle.base_tree.specs.Tree.{entry, IsTable}
use Rattle.base_tree.proofs.Forest.{Hopped}
use Rattle.base_tree.proofs.tables.add_edges.Given as goal

abbrev pub invariant-loop-edge : goal.invariant-loop-edge
invariant-loop-edge l = record {
  table : IsTable l.fn.n l.rows;
  parts : IsPartition l.fn.n (take l.edge-index l.edges) l.labels;
  hops : Hopped l.fn.n (take l.edge-index l.edges) (λ x. get_or l.labels x 0) (entry l.rows);
}
