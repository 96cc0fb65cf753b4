use Rattle.std.proofs.Common.{◌≡◌, ◌+◌, ◌≤◌, drop}
use Rattle.audit_verdict.specs.Verdict.{owed_of}
use Rattle.audit_verdict.proofs.counts.owed_of.Given as goal

abbrev pub invariant-loop-row : goal.invariant-loop-row
invariant-loop-row l = (l.owed + owed_of (drop l.row-index l.rows) ≡ owed_of l.rows) × (l.owed ≤ l.row-index)
