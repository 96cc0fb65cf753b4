use Rattle.std.proofs.Common.{length}
use Rattle.thread_workers.proofs.hire.+take_all.Given as goal

abbrev pub decreases-take_all : goal.decreases-take_all
decreases-take_all l = length l.locks.now
