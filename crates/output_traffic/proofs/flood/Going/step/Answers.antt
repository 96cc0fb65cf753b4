use Rattle.std.proofs.Common.{sym, ◌∙◌}
use Rattle.net_model.specs.Real.{real}
use Rattle.net_model.specs.Meaning.{command_of}
use Rattle.output_traffic.proofs.Refusing.{refused-here}
use Rattle.output_traffic.proofs.flood.Going.step.Goals as goal

pub returns-then-is_first-clause-step : goal.returns-then-is_first-clause-step
returns-then-is_first-clause-step c net adverts phase later e =
    refused-here real net adverts c.args.self.now.publishes phase c.args.self.now.refused c.args.refused.now (command_of c.args.command.now) later (sym c.is_publish.ensures ∙ c.if-not-is_publish.false) (sym c.is_first.ensures ∙ c.if-is_first.true) e
