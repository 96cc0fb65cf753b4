use Rattle.law_routing.specs.Routing.{routing_machine}
use Rattle.law_machine.proofs.Fixed.{whole-run}
use Rattle.law_routing.proofs.runs.whole_run.Goals as goal

pub returns : goal.returns
returns hold c net between merged merge = whole-run (routing_machine hold.M.Matching.theory net) between.opening between.network between.last between.next between.sofar between.journals between.cells between.stands merged merge
