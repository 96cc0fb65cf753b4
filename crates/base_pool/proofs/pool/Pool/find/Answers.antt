use Rattle.base_pool.proofs.Listed.{absent-has}
use Rattle.base_pool.proofs.pool.Pool.find.Goals as goal

pub returns-in-Err-clause-none : goal.returns-in-Err-clause-none
returns-in-Err-clause-none g c =
    let gap = rw c.deref.ensures.value at c.in-Err.ensures.err in
    rw (← c.self.view_is) (absent-has g.T.Cover.covering g.T.Cover.order g.met.T.Cover.laws _ _ c.self.invariant c.args.item.now gap.absent)
