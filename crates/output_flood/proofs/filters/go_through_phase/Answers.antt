use Rattle.std.proofs.Common.{ℕ, get_or, subst, sym}
use Rattle.std.proofs.lemmas.Option.{slice_get-get_or}
use Rattle.net_tables.specs.declared.numbered.NumberedCommand.{NumberedCommand}
use Rattle.net_tables.specs.declared.numbered.NumberedCommand.TheVariants as numbers
use Rattle.output_flood.specs.Numbers.{IsNumber}
use Rattle.output_flood.proofs.filters.go_through_phase.Goals as goal
use Rattle.base.proofs.Sets.{get-has}

pub take_away-requires-clause-number : goal.take_away-requires-clause-number
take_away-requires-clause-number c =
    let none : ℕ × NumberedCommand = (0, numbers.Subscribe 0) in
    let steps = c.args.steps.now in
    let i = c.loop-command.command-index in
    c.requires.numbers (get_or steps i none) (get-has steps i (get_or steps i none) (slice_get-get_or steps i none c.loop-command-test.true))

pub add-requires : goal.add-requires
add-requires c =
    let none : ℕ × NumberedCommand = (0, numbers.Subscribe 0) in
    let steps = c.args.steps.now in
    let i = c.loop-command.command-index in
    subst (λ (n : ℕ). IsNumber n (get_or steps i none).1) (sym c.loop-command.invariant.ever_width)
    (c.requires.numbers (get_or steps i none) (get-has steps i (get_or steps i none) (slice_get-get_or steps i none c.loop-command-test.true)))
