use Rattle.std.proofs.Common.{◌≡◌, [], drop}
use Rattle.output_flood.specs.Held.{held_adverts}
use Rattle.output_flood.proofs.adverts.held.Given as goal

abbrev pub invariant-loop-command : goal.invariant-loop-command
invariant-loop-command l = held_adverts l.adverts.items (drop l.command-index l.script) ≡ held_adverts [] l.script
