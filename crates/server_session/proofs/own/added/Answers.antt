use Rattle.std.proofs.Common.{sym, ◌∙◌}
use Rattle.server_session.proofs.Moving.{there-moved, added-moved}
use Rattle.server_session.proofs.own.added.Goals as goal

pub returns-then-has : goal.returns-then-has
returns-then-has g c x e = there-moved g.met.T.Cover.laws c.args.order.now c.lemma_sorted.ensures.rising c.args.i x e c.args.row.now.members c.lemma_sorted-2.ensures.rising (sym c.has.ensures ∙ c.if-has.true)

pub returns-else-has : goal.returns-else-has
returns-else-has g c x e = added-moved g.met.T.Cover.laws c.args.order.now c.lemma_sorted.ensures.rising c.args.i x e c.args.row.now.members c.lemma_sorted-2.ensures.rising
