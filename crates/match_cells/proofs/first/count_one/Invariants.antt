use Rattle.std.proofs.Common.{◌≡◌, ℕ, ◌+◌, take, get_or}
use Rattle.match_cells.specs.Asks.{missed_below}
use Rattle.match_cells.proofs.first.count_one.Given as goal

abbrev pub invariant-loop-i : goal.invariant-loop-i
invariant-loop-i l = (k : ℕ) → get_or l.lost k 0 ≡ get_or l.initial.lost k 0 + missed_below k (take l.i l.asks)
