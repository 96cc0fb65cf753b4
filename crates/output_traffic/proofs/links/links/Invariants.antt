use Rattle.std.proofs.Common.{◌≡◌, ◌+◌, ◌-◌, ◌*◌, ◌≤◌, ◌++◌, length}
use Rattle.std.specs.List.{flat_map, range_with_len}
use Rattle.base_tree.specs.Graph.{servers_to}
use Rattle.output_traffic.specs.Links.{links_from, links_in}
use Rattle.output_traffic.proofs.links.links.Given as goal

-- what is put, and then the links of the servers that are left
abbrev pub invariant-loop-a : goal.invariant-loop-a
invariant-loop-a l =
    record {
      links : l.links.items ++ flat_map (links_from l.net.trees (servers_to l.count)) (range_with_len l.a (l.count + 1 - l.a)) ≡ links_in l.net;
      few : length l.links.items + 64 ≤ 64 * l.a;
    }
