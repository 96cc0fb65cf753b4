use Rattle.std.proofs.Common.{◌-◌}
use Rattle.output_flood.proofs.Entering.{slice_numbers, gone_on}
use Rattle.output_flood.proofs.filters.ClientFilters.go_on.Goals as goal

pub go_through-requires-clause-numbers : goal.go_through-requires-clause-numbers
go_through-requires-clause-numbers c = slice_numbers _ (c.args.to - c.step_back.new.self.done) c.step_back.new.self.done c.args.steps.now c.requires.numbers

pub returns-clause-at : goal.returns-clause-at
returns-clause-at c = record {
  within = c.requires.within;
  held = gone_on c.args.filters.now c.step_back.new.self.done c.args.to c.args.steps.now c.step_back.new.self.now.members c.go_through.new.row.members c.step_back.ensures.before
      c.step_back.ensures.at.held c.go_through.ensures.members;
}
