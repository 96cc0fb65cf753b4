use Rattle.filter_values.proofs.Controls.{none_all}
use Rattle.filter_values.proofs.text.control.Goals as goal

pub returns-clause-none : goal.returns-clause-none
returns-clause-none c = none_all c.args.bytes.now c.first_control.result c.first_control.ensures
