use Rattle.std.proofs.Common.{◌≡◌, length, map, ap, subst, ◌∙◌, arith}
use denote.Param.Send.{sendable, param_send}
use Rattle.thread_workers.specs.ServerWorkers.{AreBack, IsBack, Pairwise, at_lock, with_all}
use Rattle.thread_workers.proofs.Pairs.{pairs-long}
use Rattle.thread_workers.proofs.WorkersByThread.{pairs-made}
use Rattle.thread_workers.proofs.Sends.{back_send, of_thread_send}
use Rattle.thread_workers.proofs.phase.work_all.Goals as goal

pub run_all-rows-requires-send-J : goal.run_all-rows-requires-send-J
run_all-rows-requires-send-J g c κs within = let b = c.type_bounds.sync-R in let d = c.type_bounds.sync-G in search (sendable, param_send, of_thread_send) depth 20

pub run_all-rows-requires-send-B : goal.run_all-rows-requires-send-B
run_all-rows-requires-send-B g c κs within = search (sendable, back_send) depth 20

pub take_all-requires-clause-rows : goal.take_all-requires-clause-rows
take_all-requires-clause-rows g c =
    let s = pairs-long _ c.hire_all.new.by_thread.items c.run_all-rows.result.items c.run_all-rows.ensures.kept in
    let n : length c.args.by_thread.items ≡ length c.run_all-rows.result.items = omega (arith, s, c.hire_all.ensures.count) in (
      map (λ r. map (λ p. at_lock p.context.lock.now p.context.worker) r.workers.items) c.args.by_thread.items,
      subst (λ z. AreBack z c.run_all-rows.result.items) (c.hire_all.ensures.hired ∙ ap (λ k. with_all k 0 c.args.locks.now (map (λ r. map (λ p. at_lock p.context.lock.now p.context.worker) r.workers.items) c.args.by_thread.items)) n)
          (pairs-made (λ r. map (λ p. at_lock p.context.lock.now p.context.worker) r.workers.items) (λ row back. Pairwise IsBack row back.ended.items) c.hire_all.new.by_thread.items c.run_all-rows.result.items c.run_all-rows.ensures.kept),
    )

pub take_all-requires-clause-threads : goal.take_all-requires-clause-threads
take_all-requires-clause-threads g c =
    let s = pairs-long _ c.hire_all.new.by_thread.items c.run_all-rows.result.items c.run_all-rows.ensures.kept in
    (omega (arith, s, c.hire_all.ensures.count, c.requires.threads.0), omega (arith, s, c.hire_all.ensures.count, c.requires.threads.1))
