use Rattle.std.proofs.Common.{arith}
use Rattle.server_stock.proofs.Turns.{get-within}
use Rattle.server_stock.proofs.stock.place.Goals as goal
use Rattle.base.proofs.Sets.{has-get}

pub returns-clause-none : goal.returns-clause-none
returns-clause-none c h =
    let r = has-get c.args.interfaces.now c.args.interface h in
    let l = get-within c.args.interfaces.now r.0 c.args.interface r.1 in
    c.loop-p.invariant r.0 (omega (arith, l, c.loop-p-test.false)) r.1
