use Rattle.law_machine.proofs.Fixed.{run-begins}
use Rattle.law_machine.proofs.laws.run_begins.Goals as goal

pub returns : goal.returns
returns hold c w p es fs x y r = let z = run-begins hold.M.LocalStep.machine w p es fs x y r in record { middle = z.0; now = z.1; begins = z.2; goes_on = z.3 }
