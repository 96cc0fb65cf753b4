use Rattle.std.proofs.Common.{arith}
use Rattle.server_core.proofs.Going.{got-number}
use Rattle.server_core.proofs.start.interfaces_of.Goals as goal
use Rattle.base.proofs.Sets.{get-has}

pub interface_of-requires : goal.interface_of-requires
interface_of-requires c =
    let n = Rattle.std.proofs.Common.get_or c.args.clients.now c.loop-client.client-index 0 in
    let low = c.requires n (get-has c.args.clients.now c.loop-client.client-index n (got-number c.args.clients.now c.loop-client.client-index c.loop-client-test.true)) in
    omega (arith, low)
