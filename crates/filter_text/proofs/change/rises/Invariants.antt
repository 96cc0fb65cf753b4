use Rattle.std.proofs.Common.{◌≡◌, length}
use Rattle.filter_text.specs.Changes.{rises}
use Rattle.filter_text.proofs.change.rises.Given as goal

abbrev pub invariant-loop-rest : goal.invariant-loop-rest
invariant-loop-rest g l = rises g.L.Listed.order l.lists ≡ rises g.L.Listed.order l.rest

abbrev pub decreases-loop-rest : goal.decreases-loop-rest
decreases-loop-rest g l = length l.rest
