use Rattle.std.proofs.Common.{length}
use Rattle.thread_outcome.proofs.ran.end_all.Given as goal

abbrev pub invariant-loop-cell : goal.invariant-loop-cell
invariant-loop-cell g l = Unit {0}

abbrev pub decreases-loop-cell : goal.decreases-loop-cell
decreases-loop-cell g l = length l.cells.items
