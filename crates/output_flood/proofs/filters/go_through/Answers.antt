use Rattle.std.proofs.Common.{ℕ, get_or}
use Rattle.std.proofs.lemmas.Option.{slice_get-get_or}
use Rattle.net_tables.specs.declared.numbered.NumberedCommand.{NumberedCommand}
use Rattle.net_tables.specs.declared.numbered.NumberedCommand.TheVariants as numbers
use Rattle.output_flood.proofs.filters.go_through.Goals as goal
use Rattle.base.proofs.Sets.{get-has}

pub step-requires-clause-number : goal.step-requires-clause-number
step-requires-clause-number c =
    let none : ℕ × NumberedCommand = (0, numbers.Subscribe 0) in
    let steps = c.args.steps.now in
    let i = c.loop-command.command-index in
    c.requires.numbers (get_or steps i none) (get-has steps i (get_or steps i none) (slice_get-get_or steps i none c.loop-command-test.true))
