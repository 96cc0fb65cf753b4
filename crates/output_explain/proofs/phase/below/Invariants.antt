use Rattle.std.proofs.Common.{◌≡◌, ◌≤◌, ◌+◌, drop}
use Rattle.output_flood.specs.Held.{below}
use Rattle.output_explain.proofs.phase.below.Given as goal

abbrev pub invariant-loop-of_command : goal.invariant-loop-of_command
invariant-loop-of_command l = (l.count + below l.phase (drop l.of_command-index l.script) ≡ below l.phase l.script) × (l.count ≤ l.of_command-index)
