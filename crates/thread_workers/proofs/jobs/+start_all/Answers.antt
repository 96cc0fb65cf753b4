use Rattle.std.proofs.Common.{◌≡◌, List, ◌∷◌, [], ◌++◌, sym, subst, arith}
use Rattle.std.specs.Prelude.{Result, Ok, Err, IfOk, IfErr}
use Rattle.thread_workers.specs.ServerWorkers.{Pairwise}
use Rattle.thread_workers.proofs.Pairs.{pairs-more, pairs-long}
use Rattle.thread_workers.proofs.jobs.+start_all.Goals as goal

kept : {H J B : Type 0} (of : H → J) (K : J → B → Type 0) (s : Result H B) (job : J) (back : B) → IfOk s (λ h. of h ≡ job) → IfErr s (K job) → IfOk s (λ h. K (of h) back) → IfErr s (λ e. back ≡ e) → K job back
kept of K (Ok h) job back e here there same = subst (λ j. K j back) e there
kept of K (Err x) job back e here there same = subst (K job) (sym same) here

pairs-back : {J B : Type 0} (K : J → B → Type 0) (jobs rest : List J) (job : J) (all done : List B) (back : B) → jobs ≡ rest ++ job ∷ [] → all ≡ done ++ back ∷ [] → Pairwise K rest done → K job back → Pairwise K jobs all
pairs-back K jobs rest job all done back e f p k = subst (λ js. Pairwise K js all) (sym e) (subst (Pairwise K (rest ++ job ∷ [])) (sym f) (pairs-more K rest done job back p k))

pub push_reserved-requires : goal.push_reserved-requires
push_reserved-requires g t c =
    let s = pairs-long g.J.Job.keeps c.pop.new.self.items c.start_all-done.result.items c.start_all-done.ensures.kept in
    omega (arith, s, c.in-Some.ensures.cases, c.start_all-done.result.ok.0, c.pop.new.self.ok.0, c.args.jobs.ok.0, c.start_all-done.ensures.capacity, c.requires.room)

pub returns-clause-kept : goal.returns-clause-kept
returns-clause-kept g t c =
    pairs-back g.J.Job.keeps c.args.jobs.items c.pop.new.self.items c.in-Some.job c.push_reserved.new.self.items c.start_all-done.result.items c.finish.result c.in-Some.ensures.items c.push_reserved.ensures.items c.start_all-done.ensures.kept
    (kept _ g.J.Job.keeps c.start-started.result c.in-Some.job c.finish.result c.start-started.ensures.there c.start-started.ensures.here c.finish.ensures.there c.finish.ensures.here)
