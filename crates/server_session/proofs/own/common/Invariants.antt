use Rattle.std.proofs.Common.{◌<◌, ◌≤◌, ◌-◌, ℕ}
use Rattle.base.specs.Sets.{Has}
use Rattle.server_session.proofs.own.common.Given as goal

abbrev pub invariant-loop-i : goal.invariant-loop-i
invariant-loop-i l =
    record {
      within : l.at ≤ l.row.width;
      from : (k : ℕ) → Has k l.list.items → Has k l.row.members × Has k l.other.members;
      to : (k : ℕ) → k < l.at → Has k l.row.members → Has k l.other.members → Has k l.list.items;
    }

abbrev pub decreases-loop-i : goal.decreases-loop-i
decreases-loop-i l = l.row.width - l.at
