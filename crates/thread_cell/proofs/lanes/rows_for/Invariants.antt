use Rattle.std.proofs.Common.{map}
use Rattle.thread_cell.specs.Lanes.{AreNone}
use Rattle.thread_cell.proofs.lanes.rows_for.Given as goal

abbrev pub invariant-loop : goal.invariant-loop
invariant-loop l = AreNone l.counter (map (λ r. r.items) l.rows.items)
