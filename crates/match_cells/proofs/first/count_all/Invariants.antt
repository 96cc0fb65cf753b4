use Rattle.std.proofs.Common.{◌≡◌, ℕ, take, get_or}
use Rattle.std.specs.List.{sum_by}
use Rattle.match_cells.specs.Asks.{missed_below}
use Rattle.match_cells.proofs.first.count_all.Given as goal

abbrev pub invariant-loop-c : goal.invariant-loop-c
invariant-loop-c l = (k : ℕ) → get_or l.lost k 0 ≡ sum_by (λ g. missed_below k g.items) (take l.c l.groups)
