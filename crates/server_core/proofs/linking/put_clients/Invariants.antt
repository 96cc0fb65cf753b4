use Rattle.std.proofs.Common.{take}
use Rattle.server_core.specs.Putting.{ArePut, held_by_clients}
use Rattle.server_core.proofs.linking.put_clients.Given as goal

abbrev pub invariant-loop-client : goal.invariant-loop-client
invariant-loop-client l = ArePut (take l.client-index (held_by_clients l.from.control l.clients)) l.fn.ledger l.ledger
