use Rattle.std.proofs.Common.{◌≡◌, ◌<◌, ℕ, List, length, map, set, slice_get, Some, ap, sym, subst, ◌∙◌, arith}
use Rattle.std.proofs.lemmas.List.{length-map, map-set}
use Rattle.std.proofs.lemmas.Option.{same_Some}
use Rattle.base_order.specs.Order.{picked}
use Rattle.base_order.proofs.Over.{get-set-same}
use Rattle.server_stock.specs.Sides.{Announced, announced_of, offered_at, turned}
use Rattle.server_stock.specs.Stock.{Stocked, sent, pairs_of, IsAnnounced}
use Rattle.server_stock.proofs.Turns.{side-get, side-read, sides-offered}
use Rattle.server_stock.proofs.Shown.{turned-shown}
use Rattle.server_stock.proofs.stock.Stock.offer.Goals as goal
use Rattle.base.proofs.Lists.{get-map}

pub offer-requires-clause-side : goal.offer-requires-clause-side
offer-requires-clause-side g c =
    let t = c.self.inside in
    let k = ap (λ (z : Stocked g.row.T.Denot). length z.announced) c.self.view_is in
    let r = c.requires in
    let there : c.args.place < length t.sides.items = omega (arith, r.place, k, length-map t.sides.items announced_of) in
    (side-read g.T.Cover.covering t.order.now t.held t.sides.items c.args.place c.index_mut.result.now c.self.invariant.links there c.index_mut.ensures.value).wide

pub invariant_of-self : goal.invariant_of-self
invariant_of-self g c =
    let t = c.self.inside in
    let v = c.self.invariant in
    let k = ap (λ (z : Stocked g.row.T.Denot). length z.announced) c.self.view_is in
    let r = c.requires in
    let there : c.args.place < length t.sides.items = omega (arith, r.place, k, length-map t.sides.items announced_of) in
    record {
      rising = v.rising;
      long = v.long;
      links = sides-offered g.T.Cover.covering t.order.now t.held t.sides.items c.args.place c.index_mut.result.now v.links there c.index_mut.ensures.value c.args.offered.now c.offer.new.side
          (r.width ∙ ap (λ (z : Stocked g.row.T.Denot). length z.items) (sym c.self.view_is)) c.offer.ensures;
    }

pub returns-clause-offered : goal.returns-clause-offered
returns-clause-offered g c =
    let t = c.self.inside in
    let at = offered_at t.order.now in
    map-set at t.sides.items c.args.place c.offer.new.side
    ∙ (ap (set (map at t.sides.items) c.args.place) (ap at c.offer.ensures)
    ∙ ap (λ (z : Stocked g.row.T.Denot). set z.offered c.args.place (picked z.items c.args.offered.now.members)) c.self.view_is)

pub returns-clause-announced : goal.returns-clause-announced
returns-clause-announced g c =
    let t = c.self.inside in
    let v = c.self.invariant in
    let items = t.order.now in
    let is = t.interfaces.items in
    let rows = t.held.rows in
    let sides = t.sides.items in
    let ord = g.T.Cover.order in
    let cov = g.T.Cover.covering in
    let p = c.args.place in
    let s = c.index_mut.result.now in
    let new = c.offer.new.side in
    let then = c.args.offered.now in
    let k = ap (λ (z : Stocked g.row.T.Denot). length z.announced) c.self.view_is in
    let r = c.requires in
    let there : p < length sides = omega (arith, r.place, k, length-map sides announced_of) in
    let get = side-get cov items t.held sides p s v.links there c.index_mut.ensures.value in
    let side = side-read cov items t.held sides p s v.links there c.index_mut.ensures.value in
    subst (λ (z : Stocked g.row.T.Denot). (link : ℕ) (before : List g.row.T.Denot) → slice_get z.interfaces p ≡ Some link → slice_get z.offered p ≡ Some before
    → (x : Announced) × (slice_get (map announced_of (set sides p new)) p ≡ Some x) × IsAnnounced ord z.items (sent cov ord before link z.holdings) (sent cov ord (picked z.items then.members) link z.holdings) x) c.self.view_is
    (λ link before e f.
    let own : offered_at items s ≡ before = same_Some (offered_at items s) before (sym (get-map (offered_at items) sides p s get) ∙ f) in (
      announced_of (turned cov items then rows p s),
      get-map announced_of (set sides p new) p new (get-set-same sides p new there) ∙ ap (λ z. Some (announced_of z)) c.offer.ensures,
      subst (λ o. IsAnnounced ord items (sent cov ord o link (pairs_of items is rows)) (sent cov ord (picked items then.members) link (pairs_of items is rows)) (announced_of (turned cov items then rows p s))) own
          (turned-shown g.met.T.Cover.laws items c.lemma_sorted.ensures.rising is v.rising rows rows then p link s e v.long v.long side),
    ))
