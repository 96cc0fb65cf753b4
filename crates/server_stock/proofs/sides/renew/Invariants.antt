use Rattle.std.proofs.Common.{◌≡◌, ◌⊎◌, ℕ, take}
use Rattle.base.specs.Sets.{Has}
use Rattle.base_bits.specs.Rows.{is_in}
use Rattle.server_stock.specs.Held.{wanted}
use Rattle.server_stock.proofs.sides.renew.Given as goal

abbrev pub invariant-loop-i : goal.invariant-loop-i
invariant-loop-i l =
    record {
      width : l.need.width ≡ l.fn.need.width;
      settled : (k : ℕ) → Has k (take l.i-index l.changed) → is_in k l.need.members ≡ wanted l.offered.members l.held.rows l.place k;
      toward : (k : ℕ) → (is_in k l.need.members ≡ is_in k l.fn.need.members) ⊎ (is_in k l.need.members ≡ wanted l.offered.members l.held.rows l.place k);
    }
