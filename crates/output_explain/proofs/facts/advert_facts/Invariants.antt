use Rattle.std.proofs.Common.{◌≡◌, take}
use Rattle.output_explain.specs.Facts.{advert_facts}
use Rattle.output_explain.proofs.facts.advert_facts.Given as goal

abbrev pub invariant-loop-i : goal.invariant-loop-i
invariant-loop-i l = l.facts.items ≡ advert_facts l.notice l.ahead l.before l.within (take l.i l.known)
