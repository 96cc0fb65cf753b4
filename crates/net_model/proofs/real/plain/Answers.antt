use Rattle.net_model.proofs.Meaning.{matches_plain, allows_plain}
use Rattle.net_model.proofs.real.plain.Goals as goal

pub returns-clause-matching : goal.returns-clause-matching
returns-clause-matching c n v = matches_plain n v

pub returns-clause-allowing : goal.returns-clause-allowing
returns-clause-allowing c n a v = allows_plain n a v
