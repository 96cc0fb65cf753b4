use Rattle.std.proofs.Common.{◌≡◌, ◌+◌, ◌*◌, ◌^◌, ◌≤◌, drop}
use Rattle.output_report.specs.Counts.{total}
use Rattle.output_report.proofs.counting.total_received.Given as goal

abbrev pub invariant-loop-inbox : goal.invariant-loop-inbox
invariant-loop-inbox l =
    record {
      sum : l.count + total (drop l.inbox-index l.inboxes) ≡ total l.inboxes;
      most : l.count ≤ 2 ^ 64 * l.inbox-index;
    }
