use Rattle.law_machine.proofs.Fixed.{whole-run}
use Rattle.law_machine.proofs.laws.whole_run.Goals as goal

pub returns : goal.returns
returns hold c between merged merge = whole-run hold.M.LocalStep.machine between.opening between.network between.last between.next between.sofar between.journals between.cells between.stands merged merge
