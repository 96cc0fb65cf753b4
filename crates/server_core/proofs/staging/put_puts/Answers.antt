use Rattle.std.proofs.Common.{arith}
use Rattle.server_core.proofs.staging.put_puts.Goals as goal

pub push_reserved-requires : goal.push_reserved-requires
push_reserved-requires c = omega (arith, c.requires.room, c.loop-number.invariant.len, c.loop-number.invariant.capacity, c.loop-number-test.true)
