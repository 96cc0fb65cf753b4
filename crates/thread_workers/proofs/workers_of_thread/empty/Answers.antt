use Rattle.std.proofs.Common.{length, sym, ap, subst, arith, map}
use Rattle.thread_workers.specs.ServerWorkers.{HaveRoom}
use Rattle.thread_workers.proofs.Passes.{shorter}
use Rattle.thread_workers.proofs.WorkersByThread.{room-more}
use Rattle.thread_workers.proofs.workers_of_thread.empty.Goals as goal

pub loop-number-preserved : goal.loop-number-preserved
loop-number-preserved g c = record {
  count = (let n = shorter _ _ _ c.push_reserved.ensures.items in omega (arith, n, c.loop-number.invariant.count));
  capacity = omega (arith, c.push_reserved.ensures.capacity, c.loop-number.invariant.capacity);
  room = subst (λ l. HaveRoom c.args.room (map (λ r. (length r.workers.items, r.room)) l)) (sym c.push_reserved.ensures.items) (room-more (λ r. (length r.workers.items, r.room)) c.loop-number.by_thread.items _ c.args.room c.loop-number.invariant.room (let n = ap length c.in_ok-workers.ensures.items in omega (arith, n)));
}
