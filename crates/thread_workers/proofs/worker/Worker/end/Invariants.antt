use Rattle.thread_workers.specs.WorkerHandles.{AreHandles, AreLater}
use Rattle.thread_workers.proofs.worker.Worker.end.Given as goal

abbrev pub invariant-loop : goal.invariant-loop
invariant-loop g l = record {
  handles : AreHandles l.context.lock.now l.handles;
  later : AreLater l.initial.handles l.handles;
}
