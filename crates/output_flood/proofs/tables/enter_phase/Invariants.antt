use Rattle.std.proofs.Common.{◌≡◌, true, length}
use Rattle.output_flood.specs.Tables.{IsRoom, IsReady, AllUpTo, SteadyUpTo}
use Rattle.output_flood.proofs.tables.enter_phase.Given as goal

abbrev pub invariant-loop-place : goal.invariant-loop-place
invariant-loop-place l = record {
  room : IsRoom (length l.filters) l.room;
  ready : IsReady l.filters l.scripts l.tables;
  upto : AllUpTo l.filters l.place l.phase l.scripts l.tables.clients.items;
  steady : l.steady ≡ true → SteadyUpTo l.place l.tables.clients.items;
}
