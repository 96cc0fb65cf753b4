use Rattle.std.proofs.Common.{◌≡◌, List, length, take}
use Rattle.filter_text.specs.declared.sent.Sent.{Sent}
use Rattle.output_report.specs.Trace.{entries_text}
use Rattle.audit_verdict.specs.Comparing.{GoesOn}
use Rattle.audit_verdict.proofs.traced.compare_trace.Given as goal

-- so far the journal was made again, its messages were told, and the text of both was compared
abbrev pub invariant-loop-entry : goal.invariant-loop-entry
invariant-loop-entry g l = (told : List (List Sent)) × g.P.Ruled.telling.IsRetoldTo l.entry-index l.fn.tables l.journal l.network told
    × (length told ≡ l.entry-index) × GoesOn l.initial.text l.text (entries_text l.fn.tables.clients (take l.entry-index l.journal) told)
