use Rattle.std.proofs.Common.{◌<◌, ap, subst, ◌∙◌}
use Rattle.base_order.specs.Order.{picked}
use Rattle.server_flow.proofs.Needed.{picks-due}
use Rattle.server_flow.proofs.made.roots_of.Goals as goal

pub returns-clause-roots : goal.returns-clause-roots
returns-clause-roots g c =
    let items = c.args.items.now in
    let due = c.args.due.now.members in
    let rises = c.lemma_sorted-2.ensures.rising in
    picks-due g.met.T.Cover.laws items c.lemma_sorted.ensures.rising due c.roots.new.into.members rises
    (ap (picked items) c.roots.ensures.members ∙ c.lemma_roots.ensures due rises (λ i m. subst (λ z. i < z) c.requires (c.lemma_sorted-2.ensures.within i m)))
