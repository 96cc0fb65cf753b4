use Rattle.std.proofs.Common.{ℕ, ◌+◌, ◌<◌, get_or}
use Rattle.match_routes.proofs.places.is_rising.Given as goal

abbrev pub invariant-loop-i : goal.invariant-loop-i
invariant-loop-i l = (j : ℕ) → j + 1 < l.i → get_or l.interfaces j 0 < get_or l.interfaces (j + 1) 0
