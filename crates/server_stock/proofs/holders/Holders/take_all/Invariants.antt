use Rattle.std.proofs.Common.{◌≡◌, set, take}
use Rattle.server_stock.specs.Held.{row_at, without}
use Rattle.server_stock.proofs.holders.Holders.take_all.Given as goal

abbrev pub invariant-loop-i : goal.invariant-loop-i
invariant-loop-i l =
    record {
      width : l.self.width ≡ l.fn.self.width;
      rows : l.self.rows ≡ set l.fn.self.rows l.place (without (row_at l.fn.self.rows l.place) (take l.i-index l.out));
    }
