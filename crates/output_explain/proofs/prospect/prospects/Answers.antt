use Rattle.std.proofs.Common.{sym, ◌∙◌}
use Rattle.output_explain.proofs.Naming.{named_is, nobody_is}
use Rattle.output_explain.proofs.prospect.prospects.Goals as goal

pub returns-in_default : goal.returns-in_default
returns-in_default c = nobody_is c.args.net.now c.args.name.now (sym c.number_in.ensures.value ∙ c.in_default.is)

pub returns : goal.returns
returns c = (
  c.in-Some.client,
  (named_is c.args.net.now c.args.name.now c.in-Some.client (sym c.number_in.ensures.value ∙ c.in-Some.is)).0,
  c.in_ok-prospects_of.ensures,
)
