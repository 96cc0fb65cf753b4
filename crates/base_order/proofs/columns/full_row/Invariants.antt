use Rattle.std.proofs.Common.{◌≡◌, true}
use Rattle.base_bits.specs.Words.{passing}
use Rattle.base_order.proofs.columns.full_row.Given as goal

abbrev pub invariant-loop-j : goal.invariant-loop-j
invariant-loop-j l =
    record {
      width : l.row.width ≡ l.width;
      members : l.row.members ≡ passing (λ j. true) l.j;
    }
