use Rattle.std.proofs.Common.{length, sym, subst}
use Rattle.output_flood.specs.Numbers.{AreNumbers}
use Rattle.output_flood.proofs.Entering.{slice_numbers}
use Rattle.output_flood.proofs.filters.ClientFilters.enter.Goals as goal

pub go_through_phase-requires-clause-numbers : goal.go_through_phase-requires-clause-numbers
go_through_phase-requires-clause-numbers c = subst (AreNumbers (length c.args.filters.now)) (sym c.within-within.ensures) (slice_numbers _ _ _ c.args.steps.now c.requires.numbers)
