use Rattle.std.proofs.Common.{◌≡◌, drop}
use Rattle.base.specs.Signature.{marks_from}
use Rattle.filter_covering.proofs.signature.marks_of.Given as goal

abbrev pub invariant-loop-constraint : goal.invariant-loop-constraint
invariant-loop-constraint l = marks_from (λ c. c.name) l.marks (drop l.constraint-index l.constraints) ≡ marks_from (λ c. c.name) 0 l.constraints
