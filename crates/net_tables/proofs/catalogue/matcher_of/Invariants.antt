use Rattle.std.proofs.Common.{◌≡◌, take}
use Rattle.net_tables.proofs.catalogue.matcher_of.Given as goal

abbrev pub invariant-loop-i : goal.invariant-loop-i
invariant-loop-i l = l.builder ≡ take l.i l.filters
