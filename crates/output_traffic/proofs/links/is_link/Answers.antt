use Rattle.output_traffic.proofs.Edges.{at-has}
use Rattle.output_traffic.proofs.links.is_link.Goals as goal

pub neighbours-requires : goal.neighbours-requires
neighbours-requires c = c.requires c.loop-tree-item.result (at-has c.args.trees.now c.loop-tree.tree-index c.loop-tree-item.result c.loop-tree-test.true c.loop-tree-item.is)
