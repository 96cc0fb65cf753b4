use Rattle.std.proofs.Common.{◌≡◌, nat_lt, take}
use Rattle.base.specs.Sets.{minus}
use Rattle.server_session.proofs.own.take_out.Given as goal

abbrev pub invariant-loop-i : goal.invariant-loop-i
invariant-loop-i l =
    record {
      width : l.row.width ≡ l.fn.row.width;
      members : l.row.members ≡ minus nat_lt l.fn.row.members (take l.i-index l.numbers);
    }
