use Rattle.std.proofs.Common.{length, sym, ap, subst, ◌∙◌}
use Rattle.std.proofs.lemmas.Result.{IfOk-weaker}
use Rattle.base.specs.Sets.{Has}
use Rattle.base_bits.specs.Rows.{Numbers}
use Rattle.filter_types.specs.Before.{list_before}
use Rattle.filter_types.specs.Cover.{advert_covers}
use Rattle.base_order.specs.Order.{picked}
use Rattle.filter_text.specs.Messages.{Lists}
use Rattle.net_model.specs.Parts.{NetParts}
use Rattle.net_tables.specs.Known.{known_adverts}
use Rattle.server_flow.specs.Rows.{IsNeededItem, PicksRootsOf}
use Rattle.server_flow.proofs.Needed.{picks-same, item-needed}
use Rattle.server_flow.proofs.made.Flowing.advert_row.Goals as goal

pub needed-requires-clause-wide : goal.needed-requires-clause-wide
needed-requires-clause-wide c d m n =
    c.requires.wide d m n ∙ sym (c.adverts.ensures.width ∙ ap (λ (z : NetParts). length (known_adverts z.clients)) c.requires.net)

pub roots_of-requires : goal.roots_of-requires
roots_of-requires c =
    c.in_ok-due-in-Advertisement.ensures.width ∙ (c.adverts.ensures.width ∙ (ap (λ (z : NetParts). length (known_adverts z.clients)) c.requires.net ∙ sym (ap length c.adverts-adverts.ensures)))

pub returns-in_ok-due-in-Advertisement-clause-steering : goal.returns-in_ok-due-in-Advertisement-clause-steering
returns-in_ok-due-in-Advertisement-clause-steering c _ =
    let items = known_adverts c.args.self.now.tables.now.clients in
    let due = c.in_ok-due-in-Advertisement.due.members in
    let own-is = ap (λ (z : NetParts). picked (known_adverts z.clients) c.adverts.result.now.members) (sym c.requires.net) ∙ c.adverts.ensures.represents in
    IfOk-weaker c.roots_of.result
    (λ (row : Numbers). PicksRootsOf advert_covers list_before c.adverts-adverts.result.now row.members (λ x. Has x (picked c.adverts-adverts.result.now due)))
    (λ (row : Numbers). PicksRootsOf advert_covers list_before items row.members (IsNeededItem c.args.self.now.tree.now items c.args.home.now.home.adverts c.args.table.now c.args.at c.args.of))
    (λ row picks. picks-same advert_covers list_before items row.members (λ x. Has x (picked items due)) (IsNeededItem c.args.self.now.tree.now items c.args.home.now.home.adverts c.args.table.now c.args.at c.args.of)
    (item-needed items c.args.self.now.tree.now c.adverts.result.now.members c.args.home.now.home.adverts own-is c.args.table.now c.args.at c.args.of due c.in_ok-due-in-Advertisement.ensures.members)
    (subst (λ (z : Lists). PicksRootsOf advert_covers list_before z row.members (λ x. Has x (picked z due))) c.adverts-adverts.ensures picks))
    c.roots_of.ensures.roots
