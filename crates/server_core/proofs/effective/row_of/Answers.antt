use Rattle.std.proofs.Common.{sym, ap, ◌∙◌}
use Rattle.base_order.specs.Order.{picked}
use Rattle.server_core.proofs.Putting.{held-nowhere}
use Rattle.server_core.proofs.effective.row_of.Goals as goal

pub returns-in_default-clause-held : goal.returns-in_default-clause-held
returns-in_default-clause-held g c =
    ap (picked c.args.stock.now.items) c.in_ok-row.ensures.members
    ∙ sym (held-nowhere g.T.Cover.order c.args.interface c.args.stock.now.interfaces c.args.stock.now.holdings c.lemma_sound.ensures.held_from c.in_default.ensures.none)

pub returns-clause-held : goal.returns-clause-held
returns-clause-held g c = ap (picked c.args.stock.now.items) c.copy_from.ensures.members ∙ c.in-Some.ensures.some
