use Rattle.std.proofs.Common.{◌≡◌, map, take, slice_get}
use Rattle.base_pool.specs.Pool.{item_at}
use Rattle.base_pool.proofs.pool.Pool.numbers.Given as goal

abbrev pub invariant-loop-key : goal.invariant-loop-key
invariant-loop-key g l = map (slice_get l.self.items) l.numbers.items ≡ map (item_at l.self.slots) (take l.key-index l.keys)
