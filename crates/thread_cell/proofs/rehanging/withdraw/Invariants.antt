use Rattle.std.proofs.Common.{◌≡◌, ◌++◌, map, take}
use Rattle.thread_versions.specs.Ends.{pending, installed, IsSamePublisher}
use Rattle.thread_cell.specs.Relinking.{takes}
use Rattle.thread_cell.proofs.rehanging.withdraw.Given as goal

abbrev pub invariant-loop-number : goal.invariant-loop-number
invariant-loop-number l = record {
  same : IsSamePublisher l.initial.publisher l.publisher;
  shown : installed l.publisher ≡ installed l.initial.publisher;
  kept : pending l.publisher ≡ installed l.publisher ++ l.handed.items;
  more : l.handed.items ≡ l.initial.handed.items ++ map (takes l.link) (take l.number-index l.numbers);
}
