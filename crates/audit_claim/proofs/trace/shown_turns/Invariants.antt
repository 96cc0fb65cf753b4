use Rattle.std.proofs.Common.{◌≡◌, ◌+◌, ◌≤◌, length}
use Rattle.audit_claim.specs.Output.{output_lines}
use Rattle.audit_claim.specs.Trace.{shown_by, turns_from}
use Rattle.audit_claim.proofs.trace.shown_turns.Given as goal

-- what is left, behind what stands so far, gives the whole
abbrev pub invariant-lines : goal.invariant-lines
invariant-lines l =
    (turns_from l.net l.number l.turns.items (output_lines l.rest) ≡ shown_by l.net l.first (output_lines l.output))
    × (l.number + length l.rest ≤ 268435458)

abbrev pub decreases-lines : goal.decreases-lines
decreases-lines l = length l.rest
