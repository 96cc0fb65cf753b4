use Rattle.std.proofs.Common.{◌≡◌, ◌≤◌, take, map, length, vec_len, vec_capacity}
use Rattle.sequential_network.specs.Putting.{ArePut}
use Rattle.sequential_network.proofs.servers.put_all.Given as goal

abbrev pub invariant-loop-sending : goal.invariant-loop-sending
invariant-loop-sending l =
    (l.yielded ≡ take (length l.yielded) l.fn.sent.items)
    × (l.outs.items ≡ map (λ s. s.to) l.yielded)
    × (vec_len l.outs ≡ length l.yielded)
    × (length l.fn.sent.items ≤ vec_capacity l.outs)
    × ArePut l.fn.sent.items l.fn.server l.fn.stamp l.fn.links l.links l.yielded
