use Rattle.std.proofs.Common.{take}
use Rattle.filter_types.specs.Canonical.{AreConstraints}
use Rattle.filter_types.proofs.canonical.lemma_constraints.Given as goal

abbrev pub invariant-loop-constraint : goal.invariant-loop-constraint
invariant-loop-constraint l = AreConstraints (take l.constraint-index l.constraints)
