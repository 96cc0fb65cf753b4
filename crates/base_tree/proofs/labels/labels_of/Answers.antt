use Rattle.base_tree.proofs.Faults.{fault-of}
use Rattle.base_tree.proofs.labels.labels_of.Goals as goal

pub returns-in-Some : goal.returns-in-Some
returns-in-Some c = fault-of c.args.n c.args.edges.now c.loop-i.i c.requires.few c.loop-i-test.true c.loop-i.invariant.1.forest c.join.result c.in-Some.fault c.fault_at.result c.in-Some.is c.join.ensures.twice c.join.ensures.loops c.fault_at.ensures.twice c.fault_at.ensures.loops
