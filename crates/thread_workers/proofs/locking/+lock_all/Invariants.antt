use Rattle.std.proofs.Common.{length}
use Rattle.thread_workers.proofs.locking.+lock_all.Given as goal

abbrev pub decreases-lock_all : goal.decreases-lock_all
decreases-lock_all l = length l.cells.now.items
