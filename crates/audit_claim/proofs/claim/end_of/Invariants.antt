use Rattle.std.proofs.Common.{◌≡◌, ◌+◌, ◌≤◌, length}
use Rattle.document_reader.specs.Lines.{lines}
use Rattle.audit_claim.proofs.claim.end_of.Given as goal

-- what is counted and what is left give the whole
abbrev pub invariant-lines : goal.invariant-lines
invariant-lines l = (l.number + length (lines l.rest) ≡ length (lines l.bytes) + 1) × (l.number + length l.rest ≤ length l.bytes + 1)

abbrev pub decreases-lines : goal.decreases-lines
decreases-lines l = length l.rest
