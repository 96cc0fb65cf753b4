use Rattle.std.proofs.Common.{◌≡◌, ◌+◌, ◌*◌, ◌^◌, ◌≤◌, drop}
use Rattle.audit_verdict.specs.Verdict.{owed_in}
use Rattle.audit_verdict.proofs.counts.owed_in.Given as goal

abbrev pub invariant-loop-list : goal.invariant-loop-list
invariant-loop-list l =
    record {
      sum : l.owed + owed_in (drop l.list-index l.lists) ≡ owed_in l.lists;
      most : l.owed ≤ 2 ^ 64 * l.list-index;
    }
