use Rattle.std.proofs.Common.{length}
use Rattle.thread_workers.proofs.workers_of_thread.+finish_all.Given as goal

abbrev pub decreases-finish_all : goal.decreases-finish_all
decreases-finish_all g l = length l.workers.items
