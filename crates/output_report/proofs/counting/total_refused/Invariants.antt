use Rattle.std.proofs.Common.{◌≡◌, ◌+◌, ◌*◌, ◌^◌, ◌≤◌, drop}
use Rattle.output_report.specs.Counts.{total}
use Rattle.output_report.proofs.counting.total_refused.Given as goal

abbrev pub invariant-loop-list : goal.invariant-loop-list
invariant-loop-list l =
    record {
      sum : l.count + total (drop l.list-index l.lists) ≡ total l.lists;
      most : l.count ≤ 2 ^ 64 * l.list-index;
    }
