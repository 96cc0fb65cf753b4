use Rattle.std.proofs.Common.{◌≡◌, ◌+◌, ℕ, List, ◌++◌, drop}
use Rattle.base_devices.specs.Pending.{outlet, Went}
use Rattle.output_traffic.specs.Text.{client_nodes}
use Rattle.output_traffic.proofs.graph.put_clients.Given as goal

-- what went, and then the clients that are left
abbrev pub invariant-loop-i : goal.invariant-loop-i
invariant-loop-i g l = (done : List ℕ)
    × Went (outlet (g.K.Sink.state l.initial.sink) l.initial.out) (outlet (g.K.Sink.state l.sink) l.out) done
    × (done ++ client_nodes (l.i + 1) (drop l.i l.clients) ≡ client_nodes 1 l.clients)
