use Rattle.std.proofs.Common.{ap, ◌∙◌}
use Rattle.thread_workers.specs.ServerWorkers.{at_lock}
use Rattle.thread_workers.proofs.WorkersByThread.{same-set}
use Rattle.thread_workers.proofs.workers_of_thread.go_round.Goals as goal

pub loop-worker-preserved : goal.loop-worker-preserved
loop-worker-preserved g c = same-set (λ p. at_lock p.context.lock.now p.context.worker) _ _ c.worker-item.result c.go.new.self (ap (λ d. at_lock d.lock.now d.worker) c.go.ensures.context) ∙ c.loop-worker.invariant
