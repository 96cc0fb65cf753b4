use Rattle.std.proofs.Common.{length}
use Rattle.thread_workers.proofs.hire.+hire_all.Given as goal

abbrev pub decreases-hire_all : goal.decreases-hire_all
decreases-hire_all g l = length l.locks.now
