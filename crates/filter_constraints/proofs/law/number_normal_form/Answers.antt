use Rattle.filter_constraints.proofs.NumberForms.{form, same}
use Rattle.filter_constraints.proofs.law.number_normal_form.Goals as goal

pub returns-clause-is_form : goal.returns-clause-is_form
returns-clause-is_form q least greatest op u w l = form least greatest op u w l

pub returns-clause-same : goal.returns-clause-same
returns-clause-same q least greatest op u x w l = same least greatest op u x w l
