use Rattle.std.proofs.Common.{◌++◌, ◌∷◌, [], map, length, ap, ◌∙◌, arith}
use Rattle.std.proofs.lemmas.List.{length-append, map-append}
use Rattle.thread_workers.specs.ServerWorkers.{at_lock}
use Rattle.thread_workers.proofs.WorkersByThread.{room-at, room-with, set-with}
use Rattle.thread_workers.proofs.hire.add.Goals as goal

pub add-requires : goal.add-requires
add-requires g c =
    let r = room-at (λ r. (length r.workers.items, r.room)) c.args.by_thread.now.items c.args.thread c.index_mut.result.now c.requires.room.0 c.requires.thread c.requires.room.1 in
    let a = ap (λ r. length r.workers.items) c.index_mut.ensures.value in
    let b = ap (λ r. r.room) c.index_mut.ensures.value in
    omega (arith, r, a, b)

pub returns-clause-room : goal.returns-clause-room
returns-clause-room g c left room =
    room-with (λ r. (length r.workers.items, r.room)) c.args.by_thread.now.items c.args.thread c.index_mut.result.now c.add.new.self left c.requires.thread
    (let a = ap (λ r. length r.workers.items) c.index_mut.ensures.value in let l = ap length c.add.ensures.workers in omega (arith, a, l, length-append c.index_mut.result.now.workers.items (c.args.worker ∷ [])))
    (c.add.ensures.room ∙ ap (λ r. r.room) c.index_mut.ensures.value) room

pub returns-clause-added : goal.returns-clause-added
returns-clause-added g c =
    set-with (λ r. map (λ p. at_lock p.context.lock.now p.context.worker) r.workers.items) c.args.by_thread.now.items c.args.thread c.index_mut.result.now c.add.new.self (at_lock c.args.worker.context.lock.now c.args.worker.context.worker) c.requires.thread
    (ap (map (λ p. at_lock p.context.lock.now p.context.worker)) c.add.ensures.workers ∙ map-append (λ p. at_lock p.context.lock.now p.context.worker) c.index_mut.result.now.workers.items (c.args.worker ∷ [])
    ∙ ap (λ r. map (λ p. at_lock p.context.lock.now p.context.worker) r.workers.items ++ at_lock c.args.worker.context.lock.now c.args.worker.context.worker ∷ []) c.index_mut.ensures.value)
