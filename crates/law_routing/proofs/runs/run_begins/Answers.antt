use Rattle.law_machine.proofs.Fixed.{run-begins}
use Rattle.law_routing.specs.Routing.{routing_machine}
use Rattle.law_routing.proofs.runs.run_begins.Goals as goal

pub returns : goal.returns
returns hold c net w p es fs x y r = let z = run-begins (routing_machine hold.M.Matching.theory net) w p es fs x y r in record { middle = z.0; now = z.1; begins = z.2; goes_on = z.3 }
