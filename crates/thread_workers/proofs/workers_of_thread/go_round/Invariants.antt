use Rattle.std.proofs.Common.{◌≡◌, map}
use Rattle.thread_workers.specs.ServerWorkers.{at_lock}
use Rattle.thread_workers.proofs.workers_of_thread.go_round.Given as goal

abbrev pub invariant-loop-worker : goal.invariant-loop-worker
invariant-loop-worker g l = map (λ p. at_lock p.context.lock.now p.context.worker) l.workers ≡ map (λ p. at_lock p.context.lock.now p.context.worker) l.initial.workers
