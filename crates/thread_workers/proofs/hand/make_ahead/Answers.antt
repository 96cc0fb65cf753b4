use Rattle.std.proofs.Common.{Err, subst}
use Rattle.thread_workers.specs.WorkerHandles.{IsOfWorker}
use Rattle.thread_workers.proofs.Later.{same-fault}
use Rattle.thread_workers.proofs.Lists.{prefix-along}
use Rattle.thread_workers.proofs.Trying.{grows-ahead, worn-by}
use Rattle.thread_workers.proofs.hand.make_ahead.Goals as goal

pub returns-in-Ok-clause-grows : goal.returns-in-Ok-clause-grows
returns-in-Ok-clause-grows g c = prefix-along _ _ _ (grows-ahead _ _ _ _ _ _ c.args.ahead.now c.turn_ahead.result c.turn_ahead.ensures.answers c.turn_ahead.ensures.still) c.make_turns.ensures.grows

pub returns-in-Err-clause-grows : goal.returns-in-Err-clause-grows
returns-in-Err-clause-grows g c = grows-ahead _ _ _ _ _ _ c.args.ahead.now c.turn_ahead.result c.turn_ahead.ensures.answers c.turn_ahead.ensures.still

pub returns-in-Err-clause-worn : goal.returns-in-Err-clause-worn
returns-in-Err-clause-worn g c s is e =
    let own = subst (λ w. IsOfWorker w c.args.what) is c.requires.own in
    worn-by _ _ _ _ _ _ c.lemma_kept.ensures c.turn_ahead.ensures.root c.args.what own.0 s own.1 (Err c.in-Err.fault) c.in-Err.ensures.still (c.in-Err.ensures.worn s) (same-fault _ _ e)
