use Rattle.filter_constraints.proofs.Compatible.{normal}
use Rattle.filter_constraints.proofs.law.normal_form.Goals as goal

pub returns : goal.returns
returns q c x v = normal c x v
