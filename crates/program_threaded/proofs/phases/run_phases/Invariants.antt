use Rattle.std.proofs.Common.{◌≡◌}
use Rattle.thread_cell.specs.Together.{keepings}
use Rattle.program_threaded.specs.Teams.{IsTeam}
use Rattle.program_threaded.proofs.phases.run_phases.Given as goal

abbrev pub invariant-loop : goal.invariant-loop
invariant-loop g l = record {
  team : IsTeam l.tables l.last l.cells.items l.viewers.items;
  keeps : keepings l.cells.items ≡ keepings l.initial.cells.items;
}
