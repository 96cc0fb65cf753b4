use Rattle.std.proofs.Common.{◌≡◌, drop}
use Rattle.output_explain.specs.Facts.{first_denied}
use Rattle.output_explain.proofs.facts.first_denied.Given as goal

abbrev pub invariant-loop-name : goal.invariant-loop-name
invariant-loop-name l = first_denied l.advert (drop l.name-index l.notice) ≡ first_denied l.advert l.notice
