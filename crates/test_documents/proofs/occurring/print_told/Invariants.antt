use Rattle.std.proofs.Common.{◌≡◌, length}
use Rattle.test_documents.proofs.occurring.print_told.Given as goal

-- as many notices were fed as were gone over
abbrev pub invariant-loop-notice : goal.invariant-loop-notice
invariant-loop-notice g l = length l.detector.fed ≡ l.notice-index
