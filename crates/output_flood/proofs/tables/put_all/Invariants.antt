use Rattle.std.proofs.Common.{◌≡◌, ◌<◌, ◌-◌, ◌≤◌, ◌↔◌, ◌⊎◌}
use Rattle.base.specs.Sets.{Has}
use Rattle.match_routes.specs.Installed.{Pair, IsOfSame}
use Rattle.output_flood.proofs.tables.put_all.Given as goal

abbrev pub invariant-loop-i : goal.invariant-loop-i
invariant-loop-i l = record {
  within : l.at ≤ l.row.width;
  same : IsOfSame l.table l.initial.table;
  pairs : (x : Pair) → Has x l.table.pairs ↔ (Has x l.initial.table.pairs ⊎ ((x.0 ≡ l.place) × Has x.1 l.row.members × (x.1 < l.at)));
}

abbrev pub decreases-loop-i : goal.decreases-loop-i
decreases-loop-i l = l.row.width - l.at
