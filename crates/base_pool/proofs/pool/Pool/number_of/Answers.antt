use Rattle.base_pool.proofs.Listed.{absent-has, items-at}
use Rattle.base_pool.proofs.pool.Pool.number_of.Goals as goal

pub returns-in-Ok-clause-some : goal.returns-in-Ok-clause-some
returns-in-Ok-clause-some g c =
    let ok = rw c.deref.ensures.value at c.in-Ok.ensures.ok in
    rw (← c.self.view_is) (items-at c.self.inside.slab.slots c.self.inside.sorted.items c.self.invariant.live c.in-Ok.number c.args.item.now ok.0 ok.1)

pub returns-in-Err-clause-none : goal.returns-in-Err-clause-none
returns-in-Err-clause-none g c =
    let gap = rw c.deref.ensures.value at c.in-Err.ensures.err in
    rw (← c.self.view_is) (absent-has g.T.Cover.covering g.T.Cover.order g.met.T.Cover.laws _ _ c.self.invariant c.args.item.now gap.absent)
