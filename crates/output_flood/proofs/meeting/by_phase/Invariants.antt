use Rattle.std.proofs.Common.{◌≡◌, ◌++◌, drop}
use Rattle.output_flood.specs.Tables.{ordered_from}
use Rattle.output_flood.proofs.meeting.by_phase.Given as goal

abbrev pub invariant-loop-place : goal.invariant-loop-place
invariant-loop-place l = l.order.items ++ ordered_from l.place (drop l.place l.publications) ≡ ordered_from 0 l.publications
