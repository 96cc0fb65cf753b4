use Rattle.base_tree.specs.Tree.{servers_of, links_of, hop_of}
use Rattle.base_tree.proofs.Paths.{Toward, far}
use Rattle.base_tree.proofs.tree.Tree.path.Given as goal

abbrev pub invariant-loop-at : goal.invariant-loop-at
invariant-loop-at l = Toward (servers_of l.self) (links_of l.self) (hop_of l.self) l.fn.a l.x l.at l.path.items

abbrev pub decreases-loop-at : goal.decreases-loop-at
decreases-loop-at l = far (servers_of l.self) (hop_of l.self) l.x l.at
