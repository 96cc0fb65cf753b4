use Rattle.std.proofs.Common.{◌≡◌, ◌++◌, take}
use Rattle.std.specs.List.{flat_map}
use Rattle.output_report.specs.Lines.{refused_line}
use Rattle.output_report.proofs.lines.push_refused.Given as goal

abbrev pub invariant-loop-ordinal : goal.invariant-loop-ordinal
invariant-loop-ordinal l = l.out.items ≡ l.initial.out.items ++ flat_map refused_line (take l.ordinal-index l.ordinals)
