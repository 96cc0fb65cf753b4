use Rattle.std.proofs.Common.{◌≡◌, ◌+◌, ◌++◌, map, take}
use Rattle.server_core.proofs.start.interfaces_of.Given as goal

abbrev pub invariant-loop-client : goal.invariant-loop-client
invariant-loop-client l = l.interfaces.items ≡ l.fn.links ++ map (λ n. 64 + n) (take l.client-index l.fn.clients)
