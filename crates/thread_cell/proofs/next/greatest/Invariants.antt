use Rattle.std.proofs.Common.{◌≡◌, ◌<◌, ◌^◌, max, drop}
use Rattle.thread_cell.specs.Entered.{greatest_cell_clock}
use Rattle.thread_cell.proofs.next.greatest.Given as goal

abbrev pub invariant-loop-cell : goal.invariant-loop-cell
invariant-loop-cell l = (max l.greatest (greatest_cell_clock (drop l.cell-index l.cells)) ≡ greatest_cell_clock l.cells) × (l.greatest < 2 ^ 62)
