use Rattle.std.proofs.Common.{◌≡◌, ◌+◌, ◌*◌, ◌^◌, ◌≤◌, drop}
use Rattle.output_traffic.specs.Counts.{count_at}
use Rattle.output_traffic.specs.Text.{in_all}
use Rattle.output_traffic.proofs.loads.total.Given as goal

-- the sum so far and what is left to be added is all
abbrev pub invariant-loop-a : goal.invariant-loop-a
invariant-loop-a l =
    record {
      sum : l.total + in_all (count_at l.counts) (drop l.a-index l.links) ≡ in_all (count_at l.counts) l.links;
      most : l.total ≤ 2 ^ 33 * l.a-index;
    }
