use Rattle.std.proofs.Common.{◌≡◌}
use Rattle.match_cells.specs.Changes.{after}
use Rattle.match_cells.proofs.words.turn_all.Given as goal

abbrev pub invariant-loop-i : goal.invariant-loop-i
invariant-loop-i l = (first : _) → l.initial.words ≡ after first l.changes l.from → l.words ≡ after first l.changes l.i
