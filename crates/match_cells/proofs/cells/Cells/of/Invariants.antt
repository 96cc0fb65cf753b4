use Rattle.std.proofs.Common.{◌≡◌, ◌+◌, ◌*◌, length}
use Rattle.match_cells.specs.Cells.{AreTold}
use Rattle.match_cells.specs.Walks.{IsCounted}
use Rattle.match_cells.proofs.cells.Cells.of.Given as goal

abbrev pub invariant-loop-c : goal.invariant-loop-c
invariant-loop-c l =
    (length l.lost.items ≡ 64 * l.span) × (length l.history.first ≡ l.span) × IsCounted l.groups (2 * l.c) l.lost.items l.history × (length l.ends.items ≡ 2 * l.c + 1)
    × AreTold l.groups l.history l.ends.items
