use Rattle.std.proofs.Common.{◌≡◌, false, true, arith}
use Rattle.std.proofs.lemmas.Bool.Decides.{nat_tests}
use Rattle.thread_workers.proofs.Waiting.{lives-here, later-past, none-past}
use Rattle.thread_workers.proofs.hand.is_waiting.Goals as goal

pub session-requires : goal.session-requires
session-requires c = lives-here _ _ _ c.lemma_kept.ensures c.core.result.now c.args.client c.core.ensures (c.suits.ensures.0 c.if-not-suits.false)

pub returns-in-Some-clause-past : goal.returns-in-Some-clause-past
returns-in-Some-clause-past c f s =
    later-past _ _ _ c.lemma_kept.ensures c.core.result.now c.args.client c.core.ensures _ c.session.ensures.session c.session.ensures.client (c.in-Some.own, c.in-Some.field-0-1.now) c.in-Some.ensures.next
    (grind (arith, nat_tests, f, c.phase.ensures))

pub returns-in-None-clause-past : goal.returns-in-None-clause-past
returns-in-None-clause-past c f s =
    none-past _ _ _ c.lemma_kept.ensures c.core.result.now c.args.client c.core.ensures _ c.session.ensures.session c.session.ensures.client (λ lt. (let e : false ≡ true = c.in-None.ensures.left.1 lt in cc))
