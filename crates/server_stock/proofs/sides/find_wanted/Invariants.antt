use Rattle.std.proofs.Common.{◌≡◌}
use Rattle.server_stock.specs.Held.{wanted_numbers}
use Rattle.server_stock.proofs.sides.find_wanted.Given as goal

abbrev pub invariant-loop-i : goal.invariant-loop-i
invariant-loop-i l =
    record {
      width : l.need.width ≡ l.held.width;
      members : l.need.members ≡ wanted_numbers l.i l.offered.members l.held.rows l.place;
    }
