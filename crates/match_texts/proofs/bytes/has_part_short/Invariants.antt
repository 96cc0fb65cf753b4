use Rattle.std.proofs.Common.{◌≡◌, length}
use Rattle.filter_constraints.specs.Bytes.{has_part}
use Rattle.match_texts.proofs.bytes.has_part_short.Given as goal

abbrev pub invariant-loop-byte : goal.invariant-loop-byte
invariant-loop-byte l = has_part l.left l.u ≡ has_part l.x l.u

abbrev pub decreases-loop-byte : goal.decreases-loop-byte
decreases-loop-byte l = length l.left
