use Rattle.std.proofs.Common.{◌<◌, ◌*◌, ◌+◌, suc, ◌≡◌, length, arith}
use Rattle.thread_workers.specs.ServerWorkers.{AreWorkersOf, AreSpareOf}
use Rattle.thread_workers.proofs.Pairs.{pairs-long}
use Rattle.thread_workers.proofs.Rows.{beside-last, beside-back}
use Rattle.thread_workers.proofs.WorkersByThread.{hired-last, room-less}
use Rattle.thread_workers.proofs.hire.+hire_all.Goals as goal

pub unreachable-requires : goal.unreachable-requires
unreachable-requires g t c =
    let s = pairs-long (AreWorkersOf c.args.phase_context.now.tables.now c.args.phase_context.now.phase) c.args.locks.now c.args.all_workers.items c.requires.all_workers in
    omega (arith, s, c.in-Some.ensures.cases.1, c.in_default-pop.ensures.cases.0, c.args.all_workers.ok.0)

pub worker_at-commands-requires-clause-lock : goal.worker_at-commands-requires-clause-lock
worker_at-commands-requires-clause-lock g t c = (beside-last (AreWorkersOf c.args.phase_context.now.tables.now c.args.phase_context.now.phase) c.args.locks.now c.in-Some.others.now c.in-Some.lock.now c.args.all_workers.items c.pop.new.self.items c.in-Some-pop.server_workers c.in-Some.ensures.cases.0 c.in-Some-pop.ensures.items c.requires.all_workers).1.lock_for

pub worker_at-commands-requires-clause-free : goal.worker_at-commands-requires-clause-free
worker_at-commands-requires-clause-free g t c = (beside-last (AreWorkersOf c.args.phase_context.now.tables.now c.args.phase_context.now.phase) c.args.locks.now c.in-Some.others.now c.in-Some.lock.now c.args.all_workers.items c.pop.new.self.items c.in-Some-pop.server_workers c.in-Some.ensures.cases.0 c.in-Some-pop.ensures.items c.requires.all_workers).1.commands

pub worker_at-links-requires-clause-lock : goal.worker_at-links-requires-clause-lock
worker_at-links-requires-clause-lock g t c = (beside-last (AreWorkersOf c.args.phase_context.now.tables.now c.args.phase_context.now.phase) c.args.locks.now c.in-Some.others.now c.in-Some.lock.now c.args.all_workers.items c.pop.new.self.items c.in-Some-pop.server_workers c.in-Some.ensures.cases.0 c.in-Some-pop.ensures.items c.requires.all_workers).1.lock_for

pub worker_at-links-requires-clause-free : goal.worker_at-links-requires-clause-free
worker_at-links-requires-clause-free g t c = (beside-last (AreWorkersOf c.args.phase_context.now.tables.now c.args.phase_context.now.phase) c.args.locks.now c.in-Some.others.now c.in-Some.lock.now c.args.all_workers.items c.pop.new.self.items c.in-Some-pop.server_workers c.in-Some.ensures.cases.0 c.in-Some-pop.ensures.items c.requires.all_workers).1.links

pub add-requires-clause-room : goal.add-requires-clause-room
add-requires-clause-room g t c = (2 * length c.in-Some.others.now + 1, room-less (λ r. (length r.workers.items, r.room)) c.args.by_thread.now.items (2 * length c.args.locks.now) (suc (2 * length c.in-Some.others.now + 1)) (omega (arith, c.in-Some.ensures.cases.1)) c.requires.by_thread)

pub add-requires-2-clause-room : goal.add-requires-2-clause-room
add-requires-2-clause-room g t c = (
  2 * length c.in-Some.others.now,
  room-less (λ r. (length r.workers.items, r.room)) c.add.new.by_thread.items (2 * length c.in-Some.others.now + 1) (suc (2 * length c.in-Some.others.now)) (omega arith)
      (c.add.ensures.room (2 * length c.in-Some.others.now + 1) (room-less (λ r. (length r.workers.items, r.room)) c.args.by_thread.now.items (2 * length c.args.locks.now) (suc (2 * length c.in-Some.others.now + 1)) (omega (arith, c.in-Some.ensures.cases.1)) c.requires.by_thread)),
)

pub hire_all-requires : goal.hire_all-requires
hire_all-requires g t c κs within = (
  (let lt : length c.in-Some.others.now < t = omega (arith, c.in-Some.ensures.cases.1, c.decreases) in lt),
  (
    within.0,
    (
      within.1,
      (
        (beside-last (AreWorkersOf c.args.phase_context.now.tables.now c.args.phase_context.now.phase) c.args.locks.now c.in-Some.others.now c.in-Some.lock.now c.args.all_workers.items c.pop.new.self.items c.in-Some-pop.server_workers c.in-Some.ensures.cases.0 c.in-Some-pop.ensures.items c.requires.all_workers).0,
        (
          (omega (arith, c.in-Some.ensures.cases.1, c.requires.few)),
          (
            (omega (arith, c.add.ensures.count, c.add-2.ensures.count, c.requires.threads.0), omega (arith, c.add.ensures.count, c.add-2.ensures.count, c.requires.threads.1)),
            (
              c.requires.empty,
              (
                omega (arith, c.in-Some.ensures.cases.1, c.requires.room),
                c.add-2.ensures.room (2 * length c.in-Some.others.now) (room-less (λ r. (length r.workers.items, r.room)) c.add.new.by_thread.items (2 * length c.in-Some.others.now + 1) (suc (2 * length c.in-Some.others.now)) (omega arith)
                    (c.add.ensures.room (2 * length c.in-Some.others.now + 1) (room-less (λ r. (length r.workers.items, r.room)) c.args.by_thread.now.items (2 * length c.args.locks.now) (suc (2 * length c.in-Some.others.now + 1)) (omega (arith, c.in-Some.ensures.cases.1)) c.requires.by_thread))),
              ),
            ),
          ),
        ),
      ),
    ),
  ),
)

pub push_reserved-requires : goal.push_reserved-requires
push_reserved-requires g t c =
    let s = pairs-long AreSpareOf c.in-Some.others.now c.hire_all.new.spares.items c.hire_all.ensures.spares in
    omega (arith, s, c.in-Some.ensures.cases.1, c.hire_all.new.spares.ok.0, c.hire_all.ensures.capacity, c.requires.room)

pub returns-clause-spares : goal.returns-clause-spares
returns-clause-spares g t c =
    beside-back AreSpareOf c.args.locks.now c.in-Some.others.now c.in-Some.lock.now c.hire_all.new.spares.items _ c.in-Some-pop.server_workers.spare c.in-Some.ensures.cases.0 c.push_reserved.ensures.items c.hire_all.ensures.spares
    (beside-last (AreWorkersOf c.args.phase_context.now.tables.now c.args.phase_context.now.phase) c.args.locks.now c.in-Some.others.now c.in-Some.lock.now c.args.all_workers.items c.pop.new.self.items c.in-Some-pop.server_workers c.in-Some.ensures.cases.0 c.in-Some-pop.ensures.items c.requires.all_workers).1.spare_of

pub returns-clause-hired : goal.returns-clause-hired
returns-clause-hired g t c =
    let e : c.len-threads.result ≡ length c.args.by_thread.now.items = omega (arith, c.len-threads.ensures, c.args.by_thread.now.ok.0) in
    let n : length c.add-2.new.by_thread.items ≡ length c.args.by_thread.now.items = omega (arith, c.add.ensures.count, c.add-2.ensures.count) in
    hired-last c.args.locks.now c.in-Some.others.now c.in-Some.lock.now (length c.args.by_thread.now.items) c.thread_of-first.result c.thread_of-second.result _ _ _ _ _ _ _ _ _ _ c.in-Some.ensures.cases.0 n e
    c.thread_of-first.ensures.place c.thread_of-second.ensures.place c.worker_at-commands.ensures.lock c.worker_at-commands.ensures.worker c.worker_at-links.ensures.lock c.worker_at-links.ensures.worker
    c.add.ensures.added c.add-2.ensures.added c.hire_all.ensures.hired
