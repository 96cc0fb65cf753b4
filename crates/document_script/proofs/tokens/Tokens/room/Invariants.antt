use Rattle.std.proofs.Common.{◌≤◌}
use Rattle.document_script.proofs.tokens.Tokens.room.Given as goal

abbrev pub invariant-loop-b : goal.invariant-loop-b
invariant-loop-b l = l.semicolons ≤ l.b-index
