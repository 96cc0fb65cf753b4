use Rattle.std.proofs.Common.{◌≡◌, ◌-◌, ◌+◌, ℕ, List, ◌++◌}
use Rattle.std.specs.List.{flat_map, range_with_len}
use Rattle.base_devices.specs.Pending.{outlet, Went}
use Rattle.base_tree.specs.Graph.{servers_to}
use Rattle.output_traffic.specs.Text.{server_node}
use Rattle.output_traffic.proofs.graph.put_servers.Given as goal

-- what went, and then the servers that are left
abbrev pub invariant-loop-server : goal.invariant-loop-server
invariant-loop-server g l = (done : List ℕ)
    × Went (outlet (g.K.Sink.state l.initial.sink) l.initial.out) (outlet (g.K.Sink.state l.sink) l.out) done
    × (done ++ flat_map server_node (range_with_len l.server (l.count + 1 - l.server)) ≡ flat_map server_node (servers_to l.count))
