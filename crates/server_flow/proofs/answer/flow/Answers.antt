use Rattle.std.proofs.Common.{suc}
use Rattle.server_spec.proofs.Answering.{given-links}
use Rattle.server_flow.specs.Homes.{homes_in}
use Rattle.server_flow.proofs.Answering.{held-net, flow-is}
use Rattle.server_flow.proofs.answer.flow.Goals as goal

pub advert_table-requires : goal.advert_table-requires
advert_table-requires c = record { one_each = c.requires.homes; of_net = c.requires.net; ordered = rw c.deref.ensures.value c.in_ok-order.ensures.order; whole = λ a b m. rw c.deref.ensures.value (c.in_ok-order.ensures.all a b m) }

pub filter_table-requires-clause-flowing : goal.filter_table-requires-clause-flowing
filter_table-requires-clause-flowing c = record { one_each = c.requires.homes; of_net = c.requires.net; ordered = rw c.deref.ensures.value c.in_ok-order.ensures.order; whole = λ a b m. rw c.deref.ensures.value (c.in_ok-order.ensures.all a b m) }

pub all_links-requires-clause-filters : goal.all_links-requires-clause-filters
all_links-requires-clause-filters c = c.in_ok-table.ensures.wide

pub all_links-requires-clause-adverts : goal.all_links-requires-clause-adverts
all_links-requires-clause-adverts c = c.in_ok-offers.ensures.wide

pub returns-clause-net : goal.returns-clause-net
returns-clause-net c = λ place links e. held-net c.args.tables.now c.in_ok-table.table c.in_ok-offers.offers (suc place) links.items (c.in_ok-held.ensures.held place links e)

pub returns-clause-flow : goal.returns-clause-flow
returns-clause-flow c = λ place links e link m.
    flow-is c.args.tables.now c.args.tree.now (homes_in c.args.homes.now) c.in_ok-table.table c.in_ok-offers.offers c.in_ok-table.ensures c.in_ok-offers.ensures (suc place) links.items
    (c.in_ok-held.ensures.links place links e) (c.in_ok-held.ensures.held place links e) link m

pub returns-clause-given : goal.returns-clause-given
returns-clause-given c = λ place links e.
    given-links c.args.tables.now.semantics c.args.tree.now c.lemma_laws.ensures (homes_in c.args.homes.now) (suc place) _ (c.in_ok-held.ensures.links place links e)
    (λ link m. flow-is c.args.tables.now c.args.tree.now (homes_in c.args.homes.now) c.in_ok-table.table c.in_ok-offers.offers c.in_ok-table.ensures c.in_ok-offers.ensures (suc place) links.items
    (c.in_ok-held.ensures.links place links e) (c.in_ok-held.ensures.held place links e) link m)
