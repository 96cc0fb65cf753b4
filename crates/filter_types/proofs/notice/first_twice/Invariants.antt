use Rattle.std.proofs.Common.{◌≡◌, take, drop}
use Rattle.filter_types.specs.Notice.{first_twice, twice_from}
use Rattle.filter_types.proofs.notice.first_twice.Given as goal

abbrev pub invariant-loop-i : goal.invariant-loop-i
invariant-loop-i l = first_twice l.attributes ≡ twice_from (take l.i l.attributes) l.i (drop l.i l.attributes)
