use Rattle.std.proofs.Common.{◌≡◌, drop, length}
use Rattle.output_flood.specs.Numbers.{numbers_added, numbers_lasting}
use Rattle.output_flood.proofs.filters.go_through_phase.Given as goal

abbrev pub invariant-loop-command : goal.invariant-loop-command
invariant-loop-command l = record {
  every_width : l.every.width ≡ length l.filters;
  ever_width : l.ever.width ≡ length l.filters;
  every : numbers_lasting l.filters l.every.members (drop l.command-index l.steps) ≡ numbers_lasting l.filters l.initial.every.members l.steps;
  ever : numbers_added l.ever.members (drop l.command-index l.steps) ≡ numbers_added l.initial.ever.members l.steps;
}
