use Rattle.std.proofs.Common.{arith}
use Rattle.base_order.proofs.Numbers.{free-test}
use Rattle.base_order.proofs.order.Order.is_free.Goals as goal

pub returns : goal.returns
returns g c =
    let r = c.requires in
    free-test g.T.Cover.covering c.args.self.now c.args.need.now.members (λ i h. omega (arith, c.lemma_sorted.ensures.within i h, r.need)) c.args.i c.meets.result c.above.result.now c.above.ensures c.meets.ensures.some c.meets.ensures.none
