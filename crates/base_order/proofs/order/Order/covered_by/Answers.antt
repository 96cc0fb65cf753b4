use Rattle.std.proofs.Common.{◌≡◌, ◌<◌, length, ap, subst, sym, arith}
use Rattle.base_order.specs.Order.{covered_row}
use Rattle.base_order.proofs.Rows.{rows-long, row-at}
use Rattle.base_order.proofs.order.Order.covered_by.Goals as goal

pub index-requires : goal.index-requires
index-requires g c =
    let items = c.self.inside.items.value in
    let v = ap length c.self.view_is in
    let l = rows-long (covered_row g.T.Cover.covering items) (length items) c.self.inside.covered.items c.self.invariant.covered in
    omega (arith, v, l, c.self.inside.covered.ok)

pub returns : goal.returns
returns g c =
    let items = c.self.inside.items.value in
    subst (λ z. c.index.result.now ≡ covered_row g.T.Cover.covering z c.args.i) c.self.view_is
    (row-at (covered_row g.T.Cover.covering items) (length items) c.self.inside.covered.items c.args.i c.index.result.now c.self.invariant.covered (subst (λ z. c.args.i < length z) (sym c.self.view_is) c.requires) c.index.ensures)
