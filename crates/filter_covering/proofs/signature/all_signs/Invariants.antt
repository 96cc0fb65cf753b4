use Rattle.std.proofs.Common.{◌≡◌, drop}
use Rattle.base.specs.Signature.{marks_from}
use Rattle.filter_covering.specs.Signatures.{all_signs}
use Rattle.filter_covering.proofs.signature.all_signs.Given as goal

abbrev pub invariant-loop-constraint : goal.invariant-loop-constraint
invariant-loop-constraint l = marks_from (λ s. s) l.marks (all_signs (drop l.constraint-index l.constraints)) ≡ marks_from (λ s. s) 0 (all_signs l.constraints)
