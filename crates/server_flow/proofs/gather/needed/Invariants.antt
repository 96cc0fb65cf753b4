use Rattle.std.proofs.Common.{◌≡◌, ◌↔◌, ℕ}
use Rattle.base.specs.Sets.{Has}
use Rattle.server_flow.proofs.Needed.{IsSoFar}
use Rattle.server_flow.proofs.gather.needed.Given as goal

abbrev pub invariant-loop-next : goal.invariant-loop-next
invariant-loop-next l = record {
  width : l.row.width ≡ l.own.width;
  members : (k : ℕ) → Has k l.row.members ↔ IsSoFar l.table l.at l.of l.own.members l.next-items l.next-index k;
}
