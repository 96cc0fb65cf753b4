use Rattle.std.proofs.Common.{take}
use Rattle.match_filters.specs.Goals.{AreEntered}
use Rattle.match_filters.proofs.builder.enter.Given as goal

abbrev pub invariant-loop-i : goal.invariant-loop-i
invariant-loop-i l = AreEntered (take l.i l.constraints) l.id l.fn.index l.index
