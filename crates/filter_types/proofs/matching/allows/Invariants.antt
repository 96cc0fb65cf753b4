use Rattle.std.proofs.Common.{◌≡◌, ◌+◌, length}
use Rattle.filter_types.specs.Notice.{AreRising}
use Rattle.filter_types.specs.Canonical.{AreInCanonicalOrder}
use Rattle.filter_types.specs.Cover.{allows}
use Rattle.filter_types.proofs.matching.allows.Given as goal

abbrev pub invariant-loop-attribute : goal.invariant-loop-attribute
invariant-loop-attribute l = record { rising : AreInCanonicalOrder l.constraints; names : AreRising l.attributes; same : allows l.advert l.notice ≡ allows l.constraints l.attributes }

abbrev pub decreases-loop-attribute : goal.decreases-loop-attribute
decreases-loop-attribute l = length l.constraints + length l.attributes
