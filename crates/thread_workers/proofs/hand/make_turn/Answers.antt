use Rattle.thread_workers.proofs.Trying.{grows, worn-by}
use Rattle.thread_workers.proofs.hand.make_turn.Goals as goal

pub returns-clause-grows : goal.returns-clause-grows
returns-clause-grows g c = grows _ _ _ _ _ _ c.turn.result c.turn.ensures.answers c.turn.ensures.still

pub returns-clause-worn : goal.returns-clause-worn
returns-clause-worn g c client s is e = worn-by _ _ _ _ _ _ c.lemma_kept.ensures c.turn.ensures.root c.args.what client s is c.turn.result c.turn.ensures.still (c.turn.ensures.worn s) e
