use Rattle.std.proofs.Common.{ℕ, ◌+◌, ◌<◌, get_or}
use Rattle.server_message.proofs.numbers.are_rising.Given as goal

abbrev pub invariant-loop-place : goal.invariant-loop-place
invariant-loop-place l = (j : ℕ) → j + 1 < l.place → get_or l.numbers j 0 < get_or l.numbers (j + 1) 0
