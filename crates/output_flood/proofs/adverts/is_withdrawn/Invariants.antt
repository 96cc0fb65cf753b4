use Rattle.std.proofs.Common.{◌≡◌, drop}
use Rattle.output_flood.specs.Held.{unadvertised}
use Rattle.output_flood.proofs.adverts.is_withdrawn.Given as goal

abbrev pub invariant-loop-command : goal.invariant-loop-command
invariant-loop-command l = unadvertised l.advert (drop l.command-index l.script) ≡ unadvertised l.advert l.script
