use Rattle.std.proofs.Common.{◌≡◌}
use mathlib.Core.List.{IsPrefix}
use Rattle.thread_cell.proofs.cell.Cell.take_script.Given as goal

abbrev pub invariant-loop : goal.invariant-loop
invariant-loop g l = record {
  root : l.self.root ≡ l.fn.self.root;
  grown : IsPrefix l.fn.self.journal l.self.journal;
}
