use Rattle.std.proofs.Common.{◌≡◌, ◌+◌, ◌≤◌, length}
use Rattle.audit_claim.specs.Output.{output_lines}
use Rattle.audit_claim.specs.Trace.{trace_behind}
use Rattle.audit_claim.proofs.trace.behind_head.Given as goal

-- what is left gives what the whole does
abbrev pub invariant-lines : goal.invariant-lines
invariant-lines l =
    (trace_behind l.number (output_lines l.rest) ≡ trace_behind l.first (output_lines l.output))
    × (l.number + length l.rest ≤ l.first + length l.output)

abbrev pub decreases-lines : goal.decreases-lines
decreases-lines l = length l.rest
