use Rattle.std.proofs.Common.{◌≡◌, length}
use Rattle.output_flood.proofs.rows.counted.Given as goal

abbrev pub invariant-loop-met : goal.invariant-loop-met
invariant-loop-met l = length l.counts.items ≡ l.count
