use Rattle.std.proofs.Common.{◌≡◌, ◌≤◌, map, length}
use Rattle.std.specs.Prelude.{vec_capacity}
use Rattle.thread_workers.specs.ServerWorkers.{HaveRoom}
use Rattle.thread_workers.proofs.workers_of_thread.empty.Given as goal

abbrev pub invariant-loop-number : goal.invariant-loop-number
invariant-loop-number g l = record {
  count : length l.by_thread.items ≡ l.number;
  capacity : l.threads ≤ vec_capacity l.by_thread;
  room : HaveRoom l.room (map (λ r. (length r.workers.items, r.room)) l.by_thread.items);
}
