use Rattle.std.proofs.Common.{◌≡◌, drop, length}
use Rattle.output_flood.specs.Numbers.{numbers_held}
use Rattle.output_flood.proofs.filters.go_through.Given as goal

abbrev pub invariant-loop-command : goal.invariant-loop-command
invariant-loop-command l = record {
  width : l.row.width ≡ length l.filters;
  members : numbers_held l.filters l.row.members (drop l.command-index l.steps) ≡ numbers_held l.filters l.initial.row.members l.steps;
}
