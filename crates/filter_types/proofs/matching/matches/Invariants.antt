use Rattle.std.proofs.Common.{◌≡◌, ◌+◌, length}
use Rattle.filter_types.specs.Notice.{AreRising}
use Rattle.filter_types.specs.Canonical.{AreInCanonicalOrder}
use Rattle.filter_types.specs.Cover.{matches}
use Rattle.filter_types.proofs.matching.matches.Given as goal

abbrev pub invariant-loop-constraint : goal.invariant-loop-constraint
invariant-loop-constraint l = record { rising : AreInCanonicalOrder l.constraints; names : AreRising l.attributes; same : matches l.notice l.filter ≡ matches l.attributes l.constraints }

abbrev pub decreases-loop-constraint : goal.decreases-loop-constraint
decreases-loop-constraint l = length l.constraints + length l.attributes
