use Rattle.std.proofs.Common.{length}
use Rattle.thread_workers.proofs.locking.+unlock_all.Given as goal

abbrev pub decreases-unlock_all : goal.decreases-unlock_all
decreases-unlock_all l = length l.locks.now.items
