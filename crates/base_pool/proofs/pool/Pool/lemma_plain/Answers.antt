use Rattle.base_pool.proofs.Order.{distinct}
use Rattle.base_pool.proofs.Listed.{items-set}
use Rattle.base_pool.proofs.pool.Pool.lemma_plain.Goals as goal

pub returns-clause-set : goal.returns-clause-set
returns-clause-set g c = rw (← c.self.view_is) (items-set g.T.Cover.covering g.T.Cover.order g.met.T.Cover.laws _ _ c.self.invariant)

pub returns-clause-distinct : goal.returns-clause-distinct
returns-clause-distinct g c = rw (← c.self.view_is) (distinct g.T.Cover.covering g.T.Cover.order g.met.T.Cover.laws _ _ c.self.invariant)
