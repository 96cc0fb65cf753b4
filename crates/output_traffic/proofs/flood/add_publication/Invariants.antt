use Rattle.std.proofs.Common.{◌≡◌, ◌+◌, ◌^◌, ◌≤◌, ◌<◌, ◌&&◌, ℕ, nat_le, nat_lt}
use Rattle.base.specs.Numbers.{count}
use Rattle.base_tree.specs.Hops.{side}
use Rattle.base_tree.specs.Tree.{hop_of}
use Rattle.output_traffic.specs.Counts.{count_at}
use Rattle.output_traffic.proofs.flood.add_publication.Given as goal

-- the links to the servers so far, each from the server before it on the way from home
abbrev pub invariant-loop-b : goal.invariant-loop-b
invariant-loop-b l = (from to : ℕ) → from ≤ 64 → to ≤ 64
    → count_at l.initial.counts from to + count ((nat_le 1 to && nat_lt to l.b) && side (hop_of l.tree) to from l.home) < 2 ^ 32
    → count_at l.counts from to ≡ count_at l.initial.counts from to + count ((nat_le 1 to && nat_lt to l.b) && side (hop_of l.tree) to from l.home)
