use Rattle.std.proofs.Common.{length, ap, arith}
use Rattle.base_order.specs.Order.{covered_row}
use Rattle.base_order.proofs.Rows.{rows-long}
use Rattle.base_order.proofs.order.Order.count.Goals as goal

pub overflow_cast-result : goal.overflow_cast-result
overflow_cast-result g c =
    let items = c.self.inside.items.value in
    omega (arith, c.len.ensures, c.self.invariant.few, rows-long (covered_row g.T.Cover.covering items) (length items) c.self.inside.covered.items c.self.invariant.covered)

pub returns : goal.returns
returns g c =
    let items = c.self.inside.items.value in
    omega (arith, c.len.ensures, ap length c.self.view_is, rows-long (covered_row g.T.Cover.covering items) (length items) c.self.inside.covered.items c.self.invariant.covered)
