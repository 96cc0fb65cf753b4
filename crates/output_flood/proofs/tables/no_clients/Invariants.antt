use Rattle.std.proofs.Common.{◌≡◌, length}
use Rattle.base.specs.Sets.{Has}
use Rattle.output_flood.specs.declared.filters.ClientFilters.{ClientFilters}
use Rattle.output_flood.specs.Tables.{IsNone}
use Rattle.output_flood.proofs.tables.no_clients.Given as goal

abbrev pub invariant-loop : goal.invariant-loop
invariant-loop l = record {
  count : length l.list.items ≡ l.counter;
  none : (client : ClientFilters) → Has client l.list.items → IsNone l.count client;
}
