use Rattle.std.proofs.Common.{take}
use Rattle.server_control.specs.Held.{held_in}
use Rattle.server_core.specs.Putting.{ArePut}
use Rattle.server_core.proofs.linking.put_links.Given as goal

abbrev pub invariant-loop-one : goal.invariant-loop-one
invariant-loop-one l = ArePut (take l.one-index (held_in l.held)) l.fn.ledger l.ledger
