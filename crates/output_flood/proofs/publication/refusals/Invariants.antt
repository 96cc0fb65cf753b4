use Rattle.std.proofs.Common.{◌≡◌, ◌++◌, [], ◌+◌, drop}
use Rattle.output_flood.specs.Publications.{refusals_from, publishes_in}
use Rattle.output_flood.proofs.publication.refusals.Given as goal

abbrev pub invariant-loop-command : goal.invariant-loop-command
invariant-loop-command l = (l.refused.items ++ refusals_from l.semantics l.own.items l.ordinal (drop l.command-index l.script) ≡ refusals_from l.semantics [] 0 l.script)
    × (l.ordinal + publishes_in (drop l.command-index l.script) ≡ publishes_in l.script)
