use Rattle.std.proofs.Common.{◌≡◌, ◌++◌, [], ◌+◌, drop}
use Rattle.output_flood.specs.Lasting.{AreClientAdverts}
use Rattle.output_flood.specs.Publications.{accepted_from, publishes_in}
use Rattle.output_flood.proofs.publication.push_accepted.Given as goal

abbrev pub invariant-loop-of_command : goal.invariant-loop-of_command
invariant-loop-of_command l = (l.accepted.items ++ accepted_from l.semantics l.client l.script l.own.items l.ordinal (drop l.of_command-index l.script) ≡ l.initial.accepted.items ++ accepted_from l.semantics l.client l.script [] 0 l.script)
    × (l.ordinal + publishes_in (drop l.of_command-index l.script) ≡ publishes_in l.script)
    × AreClientAdverts l.script l.lists
