use Rattle.std.proofs.Common.{take}
use Rattle.std.specs.List.{flat_map}
use Rattle.base_devices.specs.Pending.{outlet, Went}
use Rattle.output_report.specs.Flood.{row_line}
use Rattle.output_report.proofs.flooded.put_section.Given as goal

-- the lines so far went
abbrev pub invariant-loop-row : goal.invariant-loop-row
invariant-loop-row g l = Went (outlet (g.K.Sink.state l.initial.sink) l.initial.out)
    (outlet (g.K.Sink.state l.sink) l.out) (flat_map (row_line l.published.clients.now l.published.texts.now) (take l.row-index l.rows))
