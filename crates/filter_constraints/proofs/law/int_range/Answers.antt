use Rattle.filter_constraints.proofs.ConstraintLaws.{wide}
use Rattle.filter_constraints.proofs.law.int_range.Goals as goal

pub returns : goal.returns
returns q = wide
