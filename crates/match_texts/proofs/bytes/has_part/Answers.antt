use Rattle.std.proofs.Common.{◌∙◌}
use Rattle.filter_constraints.proofs.Needles.{is_found}
use Rattle.match_texts.proofs.bytes.has_part.Goals as goal

pub returns : goal.returns
returns c = c.is_some.ensures ∙ is_found c.args.x.now c.args.u.now c.find.result c.find.ensures
