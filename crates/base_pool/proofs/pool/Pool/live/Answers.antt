use Rattle.std.proofs.Common.{arith}
use Rattle.base_pool.proofs.Listed.{items-length}
use Rattle.base_pool.proofs.pool.Pool.live.Goals as goal

pub returns : goal.returns
returns g c = rw (← c.self.view_is) (omega (arith, c.len.ensures, items-length c.self.inside.slab.slots c.self.inside.sorted.items c.self.invariant.live))
