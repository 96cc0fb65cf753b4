use Rattle.std.proofs.Common.{map}
use Rattle.thread_cell.specs.Lanes.{AreLanes}
use Rattle.thread_cell.proofs.lanes.lanes_of.Given as goal

abbrev pub invariant-loop-server : goal.invariant-loop-server
invariant-loop-server l = AreLanes l.tree l.server 0 (map (λ r. r.items) l.rows.items)
