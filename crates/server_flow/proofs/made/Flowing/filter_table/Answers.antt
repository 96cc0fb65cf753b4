use Rattle.std.proofs.Common.{length, get_or, subst, sym, ap, ◌∙◌, arith}
use Rattle.std.proofs.lemmas.Option.{slice_get-get_or}
use Rattle.base.specs.Sets.{Has}
use Rattle.base_bits.specs.Rows.{Numbers}
use Rattle.filter_types.specs.Before.{list_before}
use Rattle.filter_types.specs.Cover.{filter_covers}
use Rattle.base_order.specs.Order.{picked}
use Rattle.filter_text.specs.Messages.{Lists}
use Rattle.net_tables.specs.Known.{known_filters, known_adverts}
use Rattle.server_spec.specs.Control.{is_wanted}
use Rattle.server_spec.proofs.Taken.{take-all}
use Rattle.server_spec.proofs.Ordering.{link-at, to-server, to-small, from-small}
use Rattle.server_flow.specs.Homes.{homes_in}
use Rattle.server_flow.specs.Rows.{row_at, PicksRootsOf, IsNeededItem, IsWantedToo}
use Rattle.server_flow.proofs.Filling.{earlier-wide, filter-step}
use Rattle.server_flow.proofs.Answering.{filters-here}
use Rattle.server_flow.proofs.made.Flowing.filter_table.Goals as goal
use Rattle.base.proofs.Sets.{get-has}

pub loop-at-init : goal.loop-at-init
loop-at-init c = record { wide = λ a b m. absurd m; flows = λ net sets ad_sets on union ad_union a b m. absurd m }

pub home-requires-clause-from : goal.home-requires-clause-from
home-requires-clause-from c =
    let near = link-at c.args.self.now.tree.now c.lemma_laws.ensures c.args.self.now.order.now c.requires.flowing.ordered c.loop-at.at-index c.loop-at-test.true in
    (to-server c.args.self.now.tree.now c.lemma_laws.ensures _ _ near).0

pub home-requires-clause-to : goal.home-requires-clause-to
home-requires-clause-to c =
    let near = link-at c.args.self.now.tree.now c.lemma_laws.ensures c.args.self.now.order.now c.requires.flowing.ordered c.loop-at.at-index c.loop-at-test.true in
    let r = to-server c.args.self.now.tree.now c.lemma_laws.ensures _ _ near in
    omega (arith, r.1, c.requires.flowing.one_each)

pub filter_row-requires-clause-of : goal.filter_row-requires-clause-of
filter_row-requires-clause-of c =
    to-server c.args.self.now.tree.now c.lemma_laws.ensures _ _ (link-at c.args.self.now.tree.now c.lemma_laws.ensures c.args.self.now.order.now c.requires.flowing.ordered c.loop-at.at-index c.loop-at-test.true)

pub filter_row-requires-clause-net : goal.filter_row-requires-clause-net
filter_row-requires-clause-net c =
    c.requires.flowing.of_net c.home.result.now (get-has c.args.self.now.homes.now _ c.home.result.now c.home.ensures)

pub filter_row-requires-clause-wide : goal.filter_row-requires-clause-wide
filter_row-requires-clause-wide c =
    let link = get_or c.args.self.now.order.now c.loop-at.at-index (0, 0) in
    earlier-wide c.args.self.now.tree.now c.args.self.now.order.now c.requires.flowing.ordered c.loop-at.at-index link.0 link.1 (length (known_filters c.args.self.now.tables.now.clients)) (slice_get-get_or c.args.self.now.order.now c.loop-at.at-index (0, 0) c.loop-at-test.true) c.loop-at.table c.loop-at.invariant.wide

pub row-offered-requires-clause-at : goal.row-offered-requires-clause-at
row-offered-requires-clause-at c =
    to-small c.args.self.now.tree.now c.lemma_laws.ensures _ _ (link-at c.args.self.now.tree.now c.lemma_laws.ensures c.args.self.now.order.now c.requires.flowing.ordered c.loop-at.at-index c.loop-at-test.true)

pub row-offered-requires-clause-of : goal.row-offered-requires-clause-of
row-offered-requires-clause-of c =
    from-small c.args.self.now.tree.now c.lemma_laws.ensures _ _ (link-at c.args.self.now.tree.now c.lemma_laws.ensures c.args.self.now.order.now c.requires.flowing.ordered c.loop-at.at-index c.loop-at-test.true)

pub filter_row-requires-clause-offered : goal.filter_row-requires-clause-offered
filter_row-requires-clause-offered c =
    let link = get_or c.args.self.now.order.now c.loop-at.at-index (0, 0) in
    let near = link-at c.args.self.now.tree.now c.lemma_laws.ensures c.args.self.now.order.now c.requires.flowing.ordered c.loop-at.at-index c.loop-at-test.true in
    ap (λ (z : Numbers). z.width) c.row-offered.ensures ∙ c.requires.offers.wide link.1 link.0 (c.lemma_laws.ensures.hops.both link.0 link.1 near)

pub set-requires-clause-at : goal.set-requires-clause-at
set-requires-clause-at c =
    from-small c.args.self.now.tree.now c.lemma_laws.ensures _ _ (link-at c.args.self.now.tree.now c.lemma_laws.ensures c.args.self.now.order.now c.requires.flowing.ordered c.loop-at.at-index c.loop-at-test.true)

pub set-requires-clause-of : goal.set-requires-clause-of
set-requires-clause-of c =
    to-small c.args.self.now.tree.now c.lemma_laws.ensures _ _ (link-at c.args.self.now.tree.now c.lemma_laws.ensures c.args.self.now.order.now c.requires.flowing.ordered c.loop-at.at-index c.loop-at-test.true)

pub loop-at-preserved : goal.loop-at-preserved
loop-at-preserved c =
    let at = slice_get-get_or c.args.self.now.order.now c.loop-at.at-index (0, 0) c.loop-at-test.true in
    let link = get_or c.args.self.now.order.now c.loop-at.at-index (0, 0) in
    let near = link-at c.args.self.now.tree.now c.lemma_laws.ensures c.args.self.now.order.now c.requires.flowing.ordered c.loop-at.at-index c.loop-at-test.true in
    let low = (to-server c.args.self.now.tree.now c.lemma_laws.ensures _ _ near).0 in
    let here = filters-here c.args.self.now.homes.now link.1 c.home.result.now low c.home.ensures in
    let e = c.in_ok-row.ensures in
    filter-step c.args.self.now.tables.now c.args.self.now.tree.now c.lemma_laws.ensures (homes_in c.args.self.now.homes.now) c.args.self.now.order.now c.requires.flowing.ordered c.loop-at.at-index link.0 link.1 at c.loop-at.table c.set.new.self c.in_ok-row.row c.set.ensures
    c.args.offers.now c.requires.offers e.width
    (subst (λ (z : Lists). PicksRootsOf filter_covers list_before (known_filters c.args.self.now.tables.now.clients) c.in_ok-row.row.members (IsWantedToo (IsNeededItem c.args.self.now.tree.now (known_filters c.args.self.now.tables.now.clients) z c.loop-at.table link.0 link.1)
    (is_wanted c.args.self.now.tables.now.semantics (picked (known_adverts c.args.self.now.tables.now.clients) (row_at c.args.offers.now link.1 link.0).members)))) (sym here)
    (subst (λ (z : Numbers). PicksRootsOf filter_covers list_before (known_filters c.args.self.now.tables.now.clients) c.in_ok-row.row.members (IsWantedToo (IsNeededItem c.args.self.now.tree.now (known_filters c.args.self.now.tables.now.clients) c.home.result.now.home.filters c.loop-at.table link.0 link.1)
    (is_wanted c.args.self.now.tables.now.semantics (picked (known_adverts c.args.self.now.tables.now.clients) z.members)))) c.row-offered.ensures e.roots)) c.loop-at.invariant

pub returns : goal.returns
returns c =
    record {
      wide = λ a b m. c.loop-at.invariant.wide a b (subst (λ z. Has (a, b) z) (sym (take-all c.args.self.now.order.now c.loop-at.at-index c.loop-at-test.false)) (c.requires.flowing.whole a b m));
      flows = λ net sets ad_sets on union ad_union a b m. c.loop-at.invariant.flows net sets ad_sets on union ad_union a b (subst (λ z. Has (a, b) z) (sym (take-all c.args.self.now.order.now c.loop-at.at-index c.loop-at-test.false)) (c.requires.flowing.whole a b m));
    }
