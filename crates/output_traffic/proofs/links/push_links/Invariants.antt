use Rattle.std.proofs.Common.{◌≡◌, ◌+◌, ◌-◌, ◌≤◌, ◌++◌, length}
use Rattle.std.specs.List.{range_with_len}
use Rattle.base_tree.specs.Graph.{servers_to}
use Rattle.output_traffic.specs.Links.{links_from}
use Rattle.output_traffic.proofs.links.push_links.Given as goal

-- what is put, and then the links to the servers that are left
abbrev pub invariant-loop-b : goal.invariant-loop-b
invariant-loop-b l =
    record {
      links : l.links.items ++ links_from l.trees (range_with_len l.b (l.count + 1 - l.b)) l.a ≡ l.initial.links.items ++ links_from l.trees (servers_to l.count) l.a;
      most : length l.links.items + 1 ≤ length l.initial.links.items + l.b;
    }
