use Rattle.std.proofs.Common.{◌∷◌, [], map, length, sym, ap, subst, ◌∙◌, arith}
use Rattle.std.proofs.lemmas.List.{length-append, length-map, map-append}
use Rattle.thread_workers.specs.ServerWorkers.{IsBack, Pairwise, at_lock}
use Rattle.thread_workers.proofs.Pairs.{pairs-long, pairs-more}
use Rattle.thread_workers.proofs.Finished.{is-back}
use Rattle.thread_workers.proofs.workers_of_thread.+finish_all.Goals as goal

pub push_reserved-requires : goal.push_reserved-requires
push_reserved-requires g t c =
    let s = pairs-long IsBack _ _ c.finish_all-ended.ensures.back in
    let m = length-map c.pop.new.self.items (λ p. at_lock p.context.lock.now p.context.worker) in
    let l = ap length c.in-Some.ensures.items in
    let a = length-append c.pop.new.self.items (c.in-Some.worker ∷ []) in
    omega (arith, s, m, l, a, c.finish_all-ended.ensures.capacity, c.requires.room)

pub returns-clause-back : goal.returns-clause-back
returns-clause-back g t c =
    subst (λ z. Pairwise IsBack z c.push_reserved.new.self.items) (sym (ap (map (λ p. at_lock p.context.lock.now p.context.worker)) c.in-Some.ensures.items ∙ map-append (λ p. at_lock p.context.lock.now p.context.worker) c.pop.new.self.items (c.in-Some.worker ∷ [])))
    (subst (Pairwise IsBack _) (sym c.push_reserved.ensures.items)
    (pairs-more IsBack _ c.finish_all-ended.result.items _ c.finish.result c.finish_all-ended.ensures.back (is-back c.in-Some.worker.context.lock.now c.in-Some.worker.context.worker c.in-Some.worker.handles c.finish.result c.in-Some.worker.free c.finish.ensures)))
