use Rattle.std.proofs.Common.{◌≡◌, ◌++◌, drop}
use Rattle.output_flood.specs.Held.{subscribed}
use Rattle.output_explain.proofs.prospect.subscribed.Given as goal

abbrev pub invariant-loop-command : goal.invariant-loop-command
invariant-loop-command l = l.filters.items ++ subscribed (drop l.command-index l.script) ≡ subscribed l.script
