use Rattle.std.proofs.Common.{length}
use Rattle.match_filters.proofs.Closing.{IsClosed}
use Rattle.match_filters.proofs.parts.close.Given as goal

abbrev pub decreases-loop-name : goal.decreases-loop-name
decreases-loop-name l = length l.shelves.entries

abbrev pub invariant-loop-name : goal.invariant-loop-name
invariant-loop-name l = IsClosed l.fn.shelves.entries l.parts.entries l.shelves.entries
