use Rattle.std.proofs.Common.{◌≡◌, ◌++◌, drop, length}
use Rattle.output_report.specs.Trace.{entries_text, trace_head}
use Rattle.output_report.proofs.trace.trace_text.Given as goal

-- what is written, and then the text of the entries that are left
abbrev pub invariant-loop-i : goal.invariant-loop-i
invariant-loop-i l =
    l.out.items ++ entries_text l.net.clients (drop l.i l.journal) (drop l.i l.outs)
    ≡ trace_head (length l.journal) ++ entries_text l.net.clients l.journal l.outs
