use Rattle.std.proofs.Common.{◌≡◌, ◌<◌, ℕ, List, length, slice_get, Some, ap, sym, subst, ◌∙◌, arith}
use Rattle.std.proofs.lemmas.List.{length-map}
use Rattle.std.proofs.lemmas.Option.{same_Some}
use Rattle.base_order.specs.Order.{picked}
use Rattle.server_stock.specs.Sides.{announced_of, offered_at}
use Rattle.server_stock.specs.Stock.{Stocked, sent, pairs_of}
use Rattle.server_stock.proofs.Turns.{side-get, side-read}
use Rattle.server_stock.proofs.Shown.{sent-shown}
use Rattle.server_stock.proofs.stock.Stock.sent.Goals as goal
use Rattle.base.proofs.Lists.{get-map}

pub returns : goal.returns
returns g c =
    let t = c.self.inside in
    let v = c.self.invariant in
    let items = t.order.now in
    let is = t.interfaces.items in
    let p = c.args.place in
    let s = c.index.result.now in
    let cov = g.T.Cover.covering in
    let ord = g.T.Cover.order in
    let k = ap (λ (z : Stocked g.row.T.Denot). length z.announced) c.self.view_is in
    let there : p < length t.sides.items = omega (arith, c.requires, k, length-map t.sides.items announced_of) in
    let get = side-get cov items t.held t.sides.items p s v.links there c.index.ensures in
    let side = side-read cov items t.held t.sides.items p s v.links there c.index.ensures in
    subst (λ (z : Stocked g.row.T.Denot). (link : ℕ) (offered : List g.row.T.Denot) → slice_get z.interfaces p ≡ Some link → slice_get z.offered p ≡ Some offered
    → picked z.items s.roots.members ≡ sent cov ord offered link z.holdings) c.self.view_is
    (λ link offered e f.
    let own : offered ≡ offered_at items s = same_Some offered (offered_at items s) (sym f ∙ get-map (offered_at items) t.sides.items p s get) in
    ap (picked items) side.roots
    ∙ (sent-shown g.met.T.Cover.laws items c.lemma_sorted.ensures.rising is v.rising t.held.rows p link e s.offered.members v.long
    ∙ ap (λ o. sent cov ord o link (pairs_of items is t.held.rows)) (sym own)))
