use Rattle.std.proofs.Common.{◌≡◌, slice_get, ap, sym, subst, ◌∙◌}
use Rattle.base_bits.specs.Rows.{Numbers}
use Rattle.base_order.specs.Order.{picked}
use Rattle.server_stock.specs.Stock.{Stocked, held_from}
use Rattle.server_stock.proofs.Shown.{held-shown}
use Rattle.server_stock.proofs.stock.Stock.held.Goals as goal

pub returns-in-Some-clause-some : goal.returns-in-Some-clause-some
returns-in-Some-clause-some g c =
    let t = c.self.inside in
    let i = c.args.interface in
    let p = c.in-Some.p in
    subst (λ (z : Stocked g.row.T.Denot). picked z.items c.row.result.now.members ≡ held_from g.T.Cover.order i z.holdings) c.self.view_is
    (ap (λ (r : Numbers). picked t.order.now r.members) c.row.ensures.value
    ∙ held-shown g.met.T.Cover.laws t.order.now c.lemma_sorted.ensures.rising t.interfaces.items c.self.invariant.rising t.held.rows p i
    (sym (ap (λ z. slice_get z p) c.deref.ensures.value) ∙ c.in-Some.ensures.some) c.lemma_sorted-in-Some.ensures.set.rising)
