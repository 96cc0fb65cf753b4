use Rattle.std.proofs.Common.{◌≡◌, ◌*◌, List, length, map, ap, subst, arith}
use Rattle.thread_workers.specs.ServerWorkers.{AreBackAt, HaveRoom, Pairwise}
use Rattle.thread_workers.specs.WorkerHandles.{CellLock}
use Rattle.thread_workers.proofs.Rows.{viewers-long, locks-long}
use Rattle.thread_workers.proofs.WorkersByThread.{room-less}
use Rattle.thread_cell.specs.Together.{HaveGrown}
use Rattle.thread_cell.proofs.Growing.{grown-same}
use Rattle.thread_workers.proofs.phase.run_phase.Goals as goal

pub work_all-requires-clause-by_thread : goal.work_all-requires-clause-by_thread
work_all-requires-clause-by_thread g c κs within =
    let m = locks-long c.lock_all.new.locks.items c.args.cells.now.items c.if-not-lock_all.ensures.locked.1 in
    let d = ap length c.deref.ensures.value in
    let e : c.len-count.result ≡ length c.args.cells.now.items = omega (arith, c.len-count.ensures, c.args.cells.now.ok.0) in
    room-less (λ r. (length r.workers.items, r.room)) c.in_ok-by_thread.by_thread.items (2 * length c.args.cells.now.items) (2 * length c.deref.result.now) (omega (arith, m, d)) (subst (λ n. HaveRoom (2 * n) (map (λ r. (length r.workers.items, r.room)) c.in_ok-by_thread.by_thread.items)) e c.in_ok-by_thread.ensures.room)

pub unlock_all-enough-requires-clause-room : goal.unlock_all-enough-requires-clause-room
unlock_all-enough-requires-clause-room g c =
    let m = locks-long c.lock_all.new.locks.items c.args.cells.now.items c.if-not-lock_all.ensures.locked.1 in
    let r = viewers-long c.args.cells.now.items c.args.viewers.now.items c.requires.viewers in (
      omega (arith, m, c.args.cells.now.ok.0, c.args.cells.now.ok.1, c.lock_all.ensures.capacity.0),
      omega (arith, m, r, c.args.viewers.now.ok.0, c.args.viewers.now.ok.1, c.lock_all.ensures.capacity.1),
    )

pub unlock_all-enough-requires-clause-back : goal.unlock_all-enough-requires-clause-back
unlock_all-enough-requires-clause-back g c = subst (λ (z : List CellLock). Pairwise AreBackAt z c.work_all.new.done.items) c.deref.ensures.value c.work_all.ensures.back

pub returns-then-not-lock_all-clause-grown : goal.returns-then-not-lock_all-clause-grown
returns-then-not-lock_all-clause-grown g c = c.if-not-lock_all.ensures.values

pub returns-then-enough-clause-grown : goal.returns-then-enough-clause-grown
returns-then-enough-clause-grown g c = subst (λ l. HaveGrown l c.unlock_all-enough.new.cells.items) c.if-not-lock_all.ensures.values c.unlock_all-enough.ensures.grown

pub returns-clause-grown : goal.returns-clause-grown
returns-clause-grown g c = subst (λ l. HaveGrown l c.unlock_all-enough.new.cells.items) c.if-not-lock_all.ensures.values c.unlock_all-enough.ensures.grown

pub returns-then-enough-clause-executed : goal.returns-then-enough-clause-executed
returns-then-enough-clause-executed g c = c.unlock_all-enough.ensures.executed c.if-enough.true

pub returns-in_err-by_thread-clause-grown : goal.returns-in_err-by_thread-clause-grown
returns-in_err-by_thread-clause-grown g c = grown-same c.args.cells.now.items

pub returns-in_err-rows-clause-grown : goal.returns-in_err-rows-clause-grown
returns-in_err-rows-clause-grown g c = grown-same c.args.cells.now.items

pub returns-in_err-spares-clause-grown : goal.returns-in_err-spares-clause-grown
returns-in_err-spares-clause-grown g c = grown-same c.args.cells.now.items

pub returns-in_err-done-clause-grown : goal.returns-in_err-done-clause-grown
returns-in_err-done-clause-grown g c = grown-same c.args.cells.now.items

pub returns-in_err-all_workers-clause-grown : goal.returns-in_err-all_workers-clause-grown
returns-in_err-all_workers-clause-grown g c = grown-same c.args.cells.now.items

pub returns-in_err-locks-clause-grown : goal.returns-in_err-locks-clause-grown
returns-in_err-locks-clause-grown g c = grown-same c.args.cells.now.items
