use Rattle.std.proofs.Common.{◌≡◌, ℕ, ◌+◌, Bool, take, get_or}
use Rattle.match_cells.specs.Changes.{present, Continues}
use Rattle.match_cells.specs.Asks.{missed}
use Rattle.match_cells.specs.Moves.{Show, AreMembers}
use Rattle.match_cells.proofs.shift.shift.Given as goal

abbrev pub invariant-loop-i : goal.invariant-loop-i
invariant-loop-i l =
    ((k : ℕ) → get_or l.lost k 0 + missed l.from k (take l.i l.asks) ≡ get_or l.initial.lost k 0 + missed l.to k (take l.i l.asks))
    × Continues l.initial.history l.history
    × ((members : ℕ → Bool) → AreMembers members l.asks → Show members l.initial.lost (present l.initial.history) → Show members l.lost (present l.history))
