use Rattle.std.proofs.Common.{◌≡◌}
use mathlib.Core.List.{IsPrefix}
use Rattle.thread_workers.proofs.hand.make_receptions.Given as goal

abbrev pub invariant-loop : goal.invariant-loop
invariant-loop g l = record {
  root : l.cell.root ≡ l.initial.cell.root;
  grows : IsPrefix l.initial.cell.journal l.cell.journal;
}
