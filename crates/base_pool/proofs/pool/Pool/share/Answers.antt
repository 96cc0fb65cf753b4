use Rattle.std.proofs.Common.{refl, arith}
use Rattle.base_pool.proofs.Order.{index-set}
use Rattle.base_pool.proofs.Listed.{count-items}
use Rattle.base_pool.proofs.pool.Pool.share.Goals as goal

pub invariant_of-self : goal.invariant_of-self
invariant_of-self g c = index-set g.T.Cover.covering g.T.Cover.order g.met.T.Cover.laws _ _ c.self.invariant _ _ c.index_mut.ensures.value _ refl (omega arith)

pub returns-clause-items : goal.returns-clause-items
returns-clause-items g c = rw (← c.self.view_is) (count-items g.T.Cover.covering g.T.Cover.order g.met.T.Cover.laws _ _ c.self.invariant c.args.key c.index_mut.result.now _ c.index_mut.ensures.value refl)
