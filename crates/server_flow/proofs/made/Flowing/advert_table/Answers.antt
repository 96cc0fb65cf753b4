use Rattle.std.proofs.Common.{◌≡◌, true, length, get_or, subst, sym, arith}
use Rattle.std.proofs.lemmas.Option.{slice_get-get_or}
use Rattle.base.specs.Sets.{Has}
use Rattle.filter_types.specs.Before.{list_before}
use Rattle.filter_types.specs.Cover.{advert_covers}
use Rattle.filter_text.specs.Messages.{Lists}
use Rattle.net_tables.specs.Known.{known_adverts}
use Rattle.server_spec.specs.Control.{by_adverts}
use Rattle.server_spec.proofs.Taken.{take-all}
use Rattle.server_spec.proofs.Ordering.{link-at, to-server, to-small, from-small}
use Rattle.server_flow.specs.Homes.{homes_in}
use Rattle.server_flow.specs.Rows.{PicksRootsOf, IsNeededItem}
use Rattle.server_flow.proofs.Filling.{earlier-wide, advert-step}
use Rattle.server_flow.proofs.Answering.{adverts-here}
use Rattle.server_flow.proofs.made.Flowing.advert_table.Goals as goal
use Rattle.base.proofs.Sets.{get-has}

pub loop-at-init : goal.loop-at-init
loop-at-init c = record { wide = λ a b m. absurd m; flows = λ net sets on union a b m. absurd m }

pub home-requires-clause-from : goal.home-requires-clause-from
home-requires-clause-from c =
    let near = link-at c.args.self.now.tree.now c.lemma_laws.ensures c.args.self.now.order.now c.requires.ordered c.loop-at.at-index c.loop-at-test.true in
    (to-server c.args.self.now.tree.now c.lemma_laws.ensures _ _ near).0

pub home-requires-clause-to : goal.home-requires-clause-to
home-requires-clause-to c =
    let near = link-at c.args.self.now.tree.now c.lemma_laws.ensures c.args.self.now.order.now c.requires.ordered c.loop-at.at-index c.loop-at-test.true in
    let r = to-server c.args.self.now.tree.now c.lemma_laws.ensures _ _ near in
    omega (arith, r.1, c.requires.one_each)

pub advert_row-requires-clause-of : goal.advert_row-requires-clause-of
advert_row-requires-clause-of c =
    to-server c.args.self.now.tree.now c.lemma_laws.ensures _ _ (link-at c.args.self.now.tree.now c.lemma_laws.ensures c.args.self.now.order.now c.requires.ordered c.loop-at.at-index c.loop-at-test.true)

pub advert_row-requires-clause-net : goal.advert_row-requires-clause-net
advert_row-requires-clause-net c =
    c.requires.of_net c.home.result.now (get-has c.args.self.now.homes.now _ c.home.result.now c.home.ensures)

pub advert_row-requires-clause-wide : goal.advert_row-requires-clause-wide
advert_row-requires-clause-wide c =
    let link = get_or c.args.self.now.order.now c.loop-at.at-index (0, 0) in
    earlier-wide c.args.self.now.tree.now c.args.self.now.order.now c.requires.ordered c.loop-at.at-index link.0 link.1 (length (known_adverts c.args.self.now.tables.now.clients)) (slice_get-get_or c.args.self.now.order.now c.loop-at.at-index (0, 0) c.loop-at-test.true) c.loop-at.table c.loop-at.invariant.wide

pub set-requires-clause-at : goal.set-requires-clause-at
set-requires-clause-at c =
    from-small c.args.self.now.tree.now c.lemma_laws.ensures _ _ (link-at c.args.self.now.tree.now c.lemma_laws.ensures c.args.self.now.order.now c.requires.ordered c.loop-at.at-index c.loop-at-test.true)

pub set-requires-clause-of : goal.set-requires-clause-of
set-requires-clause-of c =
    to-small c.args.self.now.tree.now c.lemma_laws.ensures _ _ (link-at c.args.self.now.tree.now c.lemma_laws.ensures c.args.self.now.order.now c.requires.ordered c.loop-at.at-index c.loop-at-test.true)

pub loop-at-preserved : goal.loop-at-preserved
loop-at-preserved c =
    let at = slice_get-get_or c.args.self.now.order.now c.loop-at.at-index (0, 0) c.loop-at-test.true in
    let link = get_or c.args.self.now.order.now c.loop-at.at-index (0, 0) in
    let near = link-at c.args.self.now.tree.now c.lemma_laws.ensures c.args.self.now.order.now c.requires.ordered c.loop-at.at-index c.loop-at-test.true in
    let low = (to-server c.args.self.now.tree.now c.lemma_laws.ensures _ _ near).0 in
    let here = adverts-here c.args.self.now.homes.now link.1 c.home.result.now low c.home.ensures in
    let e = c.in_ok-row.ensures in
    advert-step c.args.self.now.tables.now c.args.self.now.tree.now c.lemma_laws.ensures (homes_in c.args.self.now.homes.now) c.args.self.now.order.now c.requires.ordered c.loop-at.at-index link.0 link.1 at c.loop-at.table c.set.new.self c.in_ok-row.row c.set.ensures e.width
    (subst (λ (z : Lists). by_adverts c.args.self.now.tables.now.semantics ≡ true → PicksRootsOf advert_covers list_before (known_adverts c.args.self.now.tables.now.clients) c.in_ok-row.row.members
    (IsNeededItem c.args.self.now.tree.now (known_adverts c.args.self.now.tables.now.clients) z c.loop-at.table link.0 link.1)) (sym here) e.steering) e.silent c.loop-at.invariant

pub returns : goal.returns
returns c =
    record {
      wide = λ a b m. c.loop-at.invariant.wide a b (subst (λ z. Has (a, b) z) (sym (take-all c.args.self.now.order.now c.loop-at.at-index c.loop-at-test.false)) (c.requires.whole a b m));
      flows = λ net sets on union a b m. c.loop-at.invariant.flows net sets on union a b (subst (λ z. Has (a, b) z) (sym (take-all c.args.self.now.order.now c.loop-at.at-index c.loop-at-test.false)) (c.requires.whole a b m));
    }
