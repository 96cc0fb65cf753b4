use Rattle.base_pool.proofs.Listed.{items-none}
use Rattle.base_pool.proofs.pool.Pool.new.Goals as goal

pub returns-clause-none : goal.returns-clause-none
returns-clause-none g c = rw c.new-2.ensures.items (items-none c.new.result.slots)
