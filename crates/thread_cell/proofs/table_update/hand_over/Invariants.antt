use Rattle.std.proofs.Common.{◌≡◌, ◌++◌, take}
use Rattle.thread_versions.specs.Ends.{pending, installed, IsSamePublisher}
use Rattle.thread_cell.proofs.table_update.hand_over.Given as goal

abbrev pub invariant-loop-change : goal.invariant-loop-change
invariant-loop-change l = record {
  same : IsSamePublisher l.initial.publisher l.publisher;
  shown : installed l.publisher ≡ installed l.initial.publisher;
  kept : pending l.publisher ≡ installed l.publisher ++ l.handed.items;
  more : l.handed.items ≡ l.initial.handed.items ++ take l.change-index l.changes;
}
