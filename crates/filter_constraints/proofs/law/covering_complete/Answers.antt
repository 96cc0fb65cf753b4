use Rattle.filter_constraints.proofs.ConstraintComplete.{complete}
use Rattle.filter_constraints.proofs.law.covering_complete.Goals as goal

pub returns : goal.returns
returns q c d p h = complete c d p h
