use Rattle.std.proofs.Common.{◌≡◌, drop}
use Rattle.output_explain.specs.Facts.{first_miss}
use Rattle.output_explain.proofs.facts.first_miss.Given as goal

abbrev pub invariant-loop-constraint : goal.invariant-loop-constraint
invariant-loop-constraint l = first_miss l.notice (drop l.constraint-index l.filter) ≡ first_miss l.notice l.filter
