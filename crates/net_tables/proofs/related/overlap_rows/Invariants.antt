use Rattle.std.proofs.Common.{◌≡◌, take}
use Rattle.net_tables.specs.Related.{overlap_rows}
use Rattle.net_tables.proofs.related.overlap_rows.Given as goal

abbrev pub invariant-loop-i : goal.invariant-loop-i
invariant-loop-i l = l.rows.items ≡ overlap_rows l.filters (take l.i l.adverts)
