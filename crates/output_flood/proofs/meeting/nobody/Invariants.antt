use Rattle.std.proofs.Common.{◌≡◌, length}
use Rattle.output_flood.proofs.meeting.nobody.Given as goal

abbrev pub invariant-loop : goal.invariant-loop
invariant-loop l = length l.mets.items ≡ l.counter
