use Rattle.std.proofs.Common.{◌≡◌, ◌<◌, length, ap, subst, sym, arith}
use Rattle.base_order.specs.Order.{above_row}
use Rattle.base_order.proofs.Rows.{rows-long, row-at}
use Rattle.base_order.proofs.order.Order.above.Goals as goal

pub index-requires : goal.index-requires
index-requires g c =
    let items = c.self.inside.items.value in
    let v = ap length c.self.view_is in
    let l = rows-long (above_row g.T.Cover.covering items) (length items) c.self.inside.above.items c.self.invariant.above in
    omega (arith, v, l, c.self.inside.above.ok)

pub returns : goal.returns
returns g c =
    let items = c.self.inside.items.value in
    subst (λ z. c.index.result.now ≡ above_row g.T.Cover.covering z c.args.i) c.self.view_is
    (row-at (above_row g.T.Cover.covering items) (length items) c.self.inside.above.items c.args.i c.index.result.now c.self.invariant.above (subst (λ z. c.args.i < length z) (sym c.self.view_is) c.requires) c.index.ensures)
