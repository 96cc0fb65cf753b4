use Rattle.std.proofs.Common.{◌≡◌, take}
use Rattle.output_explain.specs.Facts.{filter_facts}
use Rattle.output_explain.proofs.facts.filter_facts.Given as goal

abbrev pub invariant-loop-i : goal.invariant-loop-i
invariant-loop-i l = l.facts.items ≡ filter_facts l.notice l.before l.within (take l.i l.known)
