use Rattle.std.proofs.Common.{◌≡◌, ◌++◌, take}
use Rattle.std.specs.List.{flat_map}
use Rattle.output_report.specs.Trace.{sent_line}
use Rattle.output_report.proofs.trace.push_messages.Given as goal

abbrev pub invariant-loop-sent : goal.invariant-loop-sent
invariant-loop-sent l = l.out.items ≡ l.initial.out.items ++ flat_map sent_line (take l.sent-index l.messages)
