use Rattle.std.proofs.Common.{◌++◌, ◌∷◌, [], length, get_or, sym, ap, subst, ◌∙◌, arith}
use Rattle.std.proofs.lemmas.List.{length-append}
use Rattle.thread_workers.specs.ServerWorkers.{IsBack, Pairwise}
use Rattle.thread_workers.proofs.Pairs.{pairs-less, pairs-long}
use Rattle.thread_workers.proofs.WorkersByThread.{row-with, rows-without}
use Rattle.thread_workers.proofs.hire.take.Goals as goal

pub unreachable-requires : goal.unreachable-requires
unreachable-requires c =
    let a = row-with IsBack (λ v. v.ended.items) c.requires.one.1 c.args.rows.now.items c.args.thread c.requires.one.0 c.index_mut.result.now c.requires.thread c.requires.one.2 in
    let s = pairs-long IsBack _ _ a in
    let n = ap (λ v. length v.ended.items) c.index_mut.ensures.value in
    let l = length-append (get_or c.requires.one.1 c.args.thread []) (c.requires.one.0 ∷ []) in
    omega (arith, s, n, l, c.in_default.ensures.cases.0)

pub returns-clause-taken : goal.returns-clause-taken
returns-clause-taken c at less p =
    let a = row-with IsBack (λ v. v.ended.items) less c.args.rows.now.items c.args.thread at c.index_mut.result.now c.requires.thread p in
    let b = pairs-less IsBack (get_or less c.args.thread []) c.pop.new.self.items at c.in-Some.ended
    (subst (Pairwise IsBack (get_or less c.args.thread [] ++ at ∷ [])) (sym (ap (λ v. v.ended.items) c.index_mut.ensures.value) ∙ c.in-Some.ensures.items) a) in
    (b.1, rows-without IsBack (λ v. v.ended.items) less c.args.rows.now.items c.args.thread at (record c.index_mut.result.now { ended = c.pop.new.self }) c.requires.thread p b.0)
