use Rattle.std.proofs.Common.{◌≡◌, length, subst, arith}
use Rattle.base_order.specs.Order.{AreOver}
use Rattle.base_order.proofs.Over.{over-none, over-all}
use Rattle.base_order.proofs.build.above_rows.Goals as goal

pub loop-i-init : goal.loop-i-init
loop-i-init g c = over-none g.T.Cover.covering c.args.items.now c.in_ok-above.above.items (rw c.len.ensures at c.in_ok-above.ensures)

pub returns : goal.returns
returns g c =
    let items = c.args.items.now in
    let all : c.loop-i.i ≡ length items = omega (arith, c.loop-i-test.false, c.loop-i.auto.i-end) in
    over-all g.T.Cover.covering items c.loop-i.above.items (subst (λ n. AreOver g.T.Cover.covering items n 0 c.loop-i.above.items) all c.loop-i.invariant)
