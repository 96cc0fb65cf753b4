use Rattle.std.proofs.Common.{map}
use Rattle.thread_cell.specs.Lanes.{AreLanes}
use Rattle.thread_cell.proofs.lanes.join_higher.Given as goal

abbrev pub invariant-loop-other : goal.invariant-loop-other
invariant-loop-other l = AreLanes l.tree l.server l.other (map (λ r. r.items) l.rows.items)
