use Rattle.std.proofs.Common.{◌≡◌}
use Rattle.test_documents.proofs.many.all.Given as goal

abbrev pub invariant-loop-i : goal.invariant-loop-i
invariant-loop-i l = l.row.width ≡ l.count
