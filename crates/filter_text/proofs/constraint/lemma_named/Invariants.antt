use Rattle.std.proofs.Common.{drop}
use Rattle.filter_text.specs.FilterText.{AreNamed}
use Rattle.filter_text.proofs.constraint.lemma_named.Given as goal

abbrev pub invariant-loop-constraint : goal.invariant-loop-constraint
invariant-loop-constraint l = AreNamed (drop l.constraint-index l.constraints) → AreNamed l.constraints
