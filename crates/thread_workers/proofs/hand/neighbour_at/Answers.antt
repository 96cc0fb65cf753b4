use Rattle.std.proofs.Common.{get_or, sym, ap, subst, ◌∙◌}
use Rattle.base.specs.Sets.{Has}
use Rattle.server_core.specs.Core.{CoreParts}
use Rattle.thread_workers.proofs.Waiting.{server-there, row-there, has-get}
use Rattle.thread_workers.proofs.hand.neighbour_at.Goals as goal

pub neighbours-neighbours-requires : goal.neighbours-neighbours-requires
neighbours-neighbours-requires c = server-there _ _ _ c.lemma_kept.ensures c.net.result.now c.args.server c.phase.result c.tree.result.now (sym (c.net.ensures ∙ c.tables.ensures ∙ ap (λ (z : CoreParts). z.net) c.core.ensures ∙ c.lemma_kept.ensures.run)) c.requires c.phase.ensures c.tree.ensures

pub returns : goal.returns
returns c =
    subst (Has (get_or c.neighbours-neighbours.result.now c.args.place 0))
    (row-there _ _ _ c.lemma_kept.ensures c.net.result.now c.args.server c.phase.result c.tree.result.now c.neighbours-neighbours.result.now (sym (c.net.ensures ∙ c.tables.ensures ∙ ap (λ (z : CoreParts). z.net) c.core.ensures ∙ c.lemma_kept.ensures.run)) c.requires c.phase.ensures c.tree.ensures c.neighbours-neighbours.ensures.value)
    (has-get c.neighbours-neighbours.result.now c.args.place 0 c.if-place-neighbours.false)
