use Rattle.std.proofs.Common.{◌≡◌, ◌++◌, List, take}
use Rattle.net_tables.specs.Known.{known_filters}
use Rattle.match_routes.specs.declared.table_change.TableChange.{TableChange}
use Rattle.thread_versions.specs.Ends.{pending, installed, IsSamePublisher}
use Rattle.thread_cell.specs.Lanes.{neighbours_in}
use Rattle.thread_cell.specs.Relinking.{AreTaken}
use Rattle.thread_cell.proofs.rehanging.withdraw_all.Given as goal

abbrev pub invariant-loop-link : goal.invariant-loop-link
invariant-loop-link l = record {
  same : IsSamePublisher l.initial.publisher l.publisher;
  shown : installed l.publisher ≡ installed l.initial.publisher;
  kept : pending l.publisher ≡ installed l.publisher ++ l.handed.items;
  more : (gone : List TableChange) × (l.handed.items ≡ l.initial.handed.items ++ gone) × AreTaken (known_filters l.core.net.clients) l.core.control (neighbours_in (take l.link-index l.links)) gone;
}
