use Rattle.std.proofs.Common.{◌≡◌, length}
use Rattle.output_flood.proofs.rows.count_all.Given as goal

abbrev pub invariant-loop-place : goal.invariant-loop-place
invariant-loop-place l = length l.counts ≡ length l.initial.counts
