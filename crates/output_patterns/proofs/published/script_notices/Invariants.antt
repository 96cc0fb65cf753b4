use Rattle.std.proofs.Common.{◌≡◌, ◌++◌}
use Rattle.output_patterns.specs.Published.{script_notices}
use Rattle.output_patterns.proofs.published.script_notices.Given as goal

abbrev pub invariant-loop-command : goal.invariant-loop-command
invariant-loop-command l = l.notices.items ++ script_notices l.command-iterator.rest.items ≡ script_notices l.fn.script.items
