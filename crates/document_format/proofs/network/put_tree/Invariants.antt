use Rattle.std.proofs.Common.{◌≡◌, ◌-◌, ◌+◌, ℕ, List, ◌++◌}
use Rattle.std.specs.List.{flat_map, range_with_len}
use Rattle.base_devices.specs.Pending.{outlet, Went}
use Rattle.base_tree.specs.Tree.{servers_of}
use Rattle.document_format.specs.Writing.{server_text}
use Rattle.document_format.proofs.network.put_tree.Given as goal

-- what went, and then the servers that are left
abbrev pub invariant-loop-a : goal.invariant-loop-a
invariant-loop-a g l = (done : List ℕ)
    × Went (outlet (g.K.Sink.state l.initial.sink) l.initial.out) (outlet (g.K.Sink.state l.sink) l.out) done
    × (done ++ flat_map (server_text l.tree) (range_with_len l.a (l.tree.count + 1 - l.a)) ≡ flat_map (server_text l.tree) (servers_of l.tree))
