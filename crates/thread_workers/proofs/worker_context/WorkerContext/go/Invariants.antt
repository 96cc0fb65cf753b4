use Rattle.thread_lock.specs.Passes.{seen_by}
use Rattle.thread_workers.specs.WorkerHandles.{AreHandles, AreLater, IsWorkerState, lock_root}
use Rattle.thread_workers.proofs.worker_context.WorkerContext.go.Given as goal

abbrev pub invariant-loop : goal.invariant-loop
invariant-loop g l = record {
  handles : AreHandles l.self.lock.now l.handles;
  later : AreLater l.initial.handles l.handles;
  state : IsWorkerState l.self.worker (lock_root l.self.lock.now) (seen_by l.handles.pass) l.state;
}
