use Rattle.std.proofs.Common.{sym, ap, ◌∙◌}
use Rattle.net_model.specs.Parts.{NetParts}
use Rattle.net_tables.specs.Known.{known_filters}
use Rattle.base_order.specs.Order.{picked}
use Rattle.thread_cell.proofs.HandOver.{says-held, says-gone}
use Rattle.thread_cell.proofs.table_update.held_change.Goals as goal

pub returns-then-has-clause-held : goal.returns-then-has-clause-held
returns-then-has-clause-held c =
    says-held c.args.core.now c.pair_of-interface.result.1 c.pair_of-interface.result.0 c.filters.result.now.members
    (ap (λ (n : NetParts). picked (known_filters n.clients) c.filters.result.now.members) (sym c.in_ok-held.ensures.net) ∙ c.filters.ensures.represents ∙ c.in_ok-held.ensures.filters)
    (sym c.has.ensures ∙ c.if-has.true)

pub returns-clause-held : goal.returns-clause-held
returns-clause-held c =
    says-gone c.args.core.now c.pair_of-interface.result.1 c.pair_of-interface.result.0 c.filters.result.now.members
    (ap (λ (n : NetParts). picked (known_filters n.clients) c.filters.result.now.members) (sym c.in_ok-held.ensures.net) ∙ c.filters.ensures.represents ∙ c.in_ok-held.ensures.filters)
    (sym c.has.ensures ∙ c.if-has.false)
