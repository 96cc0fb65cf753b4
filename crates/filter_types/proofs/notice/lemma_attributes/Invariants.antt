use Rattle.std.proofs.Common.{drop}
use Rattle.filter_types.specs.Notice.{AreNames, AreValues}
use Rattle.filter_types.proofs.notice.lemma_attributes.Given as goal

abbrev pub invariant-loop-name : goal.invariant-loop-name
invariant-loop-name l = record { names : AreNames (drop l.name-index l.attributes) → AreNames l.attributes; values : AreValues (drop l.name-index l.attributes) → AreValues l.attributes }
