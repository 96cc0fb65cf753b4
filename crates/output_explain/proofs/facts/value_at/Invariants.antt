use Rattle.std.proofs.Common.{◌≡◌, drop}
use Rattle.output_explain.specs.Facts.{value_at}
use Rattle.output_explain.proofs.facts.value_at.Given as goal

abbrev pub invariant-loop-other : goal.invariant-loop-other
invariant-loop-other l = value_at (drop l.other-index l.notice) l.name ≡ value_at l.notice l.name
