use Rattle.std.proofs.Common.{length, sym, ap, subst, ◌∙◌}
use Rattle.std.proofs.lemmas.Result.{IfOk-weaker}
use Rattle.base.specs.Sets.{Has}
use Rattle.base_bits.specs.Rows.{Numbers}
use Rattle.filter_types.specs.Before.{list_before}
use Rattle.filter_types.specs.Cover.{filter_covers}
use Rattle.base_order.specs.Order.{picked}
use Rattle.filter_text.specs.Messages.{Lists}
use Rattle.net_model.specs.Parts.{NetParts}
use Rattle.server_spec.specs.Control.{is_wanted}
use Rattle.net_tables.specs.Known.{known_filters, known_adverts}
use Rattle.server_flow.specs.Rows.{IsNeededItem, IsWantedToo, PicksRootsOf}
use Rattle.server_flow.proofs.Needed.{picks-same, item-wanted}
use Rattle.server_flow.proofs.made.Flowing.filter_row.Goals as goal

pub needed-requires-clause-wide : goal.needed-requires-clause-wide
needed-requires-clause-wide c d m n =
    c.requires.wide d m n ∙ sym (c.filters.ensures.width ∙ ap (λ (z : NetParts). length (known_filters z.clients)) c.requires.net)

pub keep_wanted-requires-clause-due : goal.keep_wanted-requires-clause-due
keep_wanted-requires-clause-due c = c.in_ok-due.ensures.width ∙ (c.filters.ensures.width ∙ ap (λ (z : NetParts). length (known_filters z.clients)) c.requires.net)

pub roots_of-requires : goal.roots_of-requires
roots_of-requires c =
    c.in_ok-keep_wanted.ensures.width ∙ (c.in_ok-due.ensures.width ∙ (c.filters.ensures.width ∙ (ap (λ (z : NetParts). length (known_filters z.clients)) c.requires.net ∙ sym (ap length c.filters-2.ensures))))

pub returns-clause-roots : goal.returns-clause-roots
returns-clause-roots c =
    let items = known_filters c.args.self.now.tables.now.clients in
    let own-is = ap (λ (z : NetParts). picked (known_filters z.clients) c.filters.result.now.members) (sym c.requires.net) ∙ c.filters.ensures.represents in
    let wanted = is_wanted c.args.self.now.tables.now.semantics (picked (known_adverts c.args.self.now.tables.now.clients) c.args.offered.now.members) in
    IfOk-weaker c.roots_of.result
    (λ (row : Numbers). PicksRootsOf filter_covers list_before c.filters-2.result.now row.members (λ x. Has x (picked c.filters-2.result.now c.keep_wanted.new.due.members)))
    (λ (row : Numbers). PicksRootsOf filter_covers list_before items row.members (IsWantedToo (IsNeededItem c.args.self.now.tree.now items c.args.home.now.home.filters c.args.table.now c.args.at c.args.of) wanted))
    (λ row picks. picks-same filter_covers list_before items row.members (λ x. Has x (picked items c.keep_wanted.new.due.members))
    (IsWantedToo (IsNeededItem c.args.self.now.tree.now items c.args.home.now.home.filters c.args.table.now c.args.at c.args.of) wanted)
    (item-wanted items c.args.self.now.tree.now c.filters.result.now.members c.args.home.now.home.filters own-is c.args.table.now c.args.at c.args.of c.in_ok-due.due.members c.in_ok-due.ensures.members wanted c.keep_wanted.new.due.members c.in_ok-keep_wanted.ensures.members)
    (subst (λ (z : Lists). PicksRootsOf filter_covers list_before z row.members (λ x. Has x (picked z c.keep_wanted.new.due.members))) c.filters-2.ensures picks))
    c.roots_of.ensures.roots
