use Rattle.output_patterns.proofs.Lookup.{none_there}
use Rattle.output_patterns.proofs.published.name_at.Goals as goal

pub returns-in-None : goal.returns-in-None
returns-in-None c = none_there c.args.names.now c.args.number c.in-None.ensures
