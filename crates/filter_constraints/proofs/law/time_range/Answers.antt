use Rattle.filter_constraints.proofs.ConstraintLaws.{time_wide}
use Rattle.filter_constraints.proofs.law.time_range.Goals as goal

pub returns : goal.returns
returns q = time_wide
