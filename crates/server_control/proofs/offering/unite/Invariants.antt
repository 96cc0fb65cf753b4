use Rattle.std.proofs.Common.{◌≡◌, ◌-◌, ◌<◌, ◌≤◌, ℕ, length}
use Rattle.base.specs.Sets.{Has}
use Rattle.server_control.specs.Offering.{row_of}
use Rattle.server_control.proofs.offering.unite.Given as goal

abbrev pub invariant-loop-a : goal.invariant-loop-a
invariant-loop-a l =
    record {
      within : l.at ≤ length l.rows;
      width : l.row.width ≡ l.fn.row.width;
      from : (k : ℕ) → Has k l.row.members → (a : ℕ) × Has a l.held.members × Has k (row_of l.rows a).members;
      to : (a k : ℕ) → a < l.at → Has a l.held.members → Has k (row_of l.rows a).members → Has k l.row.members;
    }

abbrev pub decreases-loop-a : goal.decreases-loop-a
decreases-loop-a l = length l.rows - l.at
